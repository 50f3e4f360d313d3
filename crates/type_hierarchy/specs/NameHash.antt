-- The hash by which a name is found: FNV-1a at 64 bits over its scope and the bytes of its path; or over a text.
use Rattle.std.specs.Prelude.{ℕ, ◌*◌, ◌%◌, ◌^◌, List, fold, bit_xor}
use Rattle.type_terms.specs.declared.name.Scope.{Scope}
use Rattle.type_terms.specs.declared.name.Scope.TheVariants.{Here, Extern}
use Rattle.type_terms.specs.declared.name.TypeId.{TypeId}
use Rattle.type_terms.specs.declared.name.TypeName.{TypeName}

-- one step of FNV-1a
unfoldable pub mix : ℕ → ℕ → ℕ
mix hash number = (bit_xor hash number * 0x00000100000001B3) % (2 ^ 64)

unfoldable pub mix_text : ℕ → List ℕ → ℕ
mix_text hash text = fold mix hash text

-- the hash of a text alone
unfoldable pub text_hash : List ℕ → ℕ
text_hash text = mix_text 0xCBF29CE484222325 text

unfoldable pub mix_id : ℕ → TypeId → ℕ
mix_id hash id = mix_text (mix (mix_text hash id.space) 0xFF) id.name

unfoldable pub mix_path : ℕ → List TypeId → ℕ
mix_path hash path = fold mix_id hash path

unfoldable pub mix_scope : ℕ → Scope → ℕ
mix_scope hash Here = hash
mix_scope hash (Extern k) = mix (mix hash 0x100) k

unfoldable pub name_hash : TypeName → ℕ
name_hash name = mix_path (mix_scope 0xCBF29CE484222325 name.scope) name.path
