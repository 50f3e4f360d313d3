-- The hashes by which names, types and references are found again: FNV-1 at 64 bits over all that they are made of.
use Rattle.std.specs.Prelude.{ℕ, ℤ, ◌*◌, ◌%◌, ◌^◌, Bool, if◌then◌else◌, List, Option, Some, None, fold, bit_xor, unsigned_abs}
use Rattle.type_terms.specs.Order.{prim_place}
use Rattle.type_terms.specs.declared.name.Scope.{Scope}
use Rattle.type_terms.specs.declared.name.Scope.TheVariants.{Here, Extern}
use Rattle.type_terms.specs.declared.name.TypeId.{TypeId}
use Rattle.type_terms.specs.declared.name.TypeName.{TypeName}
use Rattle.type_terms.specs.declared.reference.FieldRef.{FieldRef}
use Rattle.type_terms.specs.declared.reference.MethodRef.{MethodRef}
use Rattle.type_terms.specs.declared.reference.MethodSig.{MethodSig}
use Rattle.type_terms.specs.declared.term.Owner.{Owner, fold-Owner}
use Rattle.type_terms.specs.declared.term.SigType.{SigType, fold-SigType}
use Rattle.type_terms.specs.declared.term.Owner.TheOpen.{Owner-F, SigType-F, Name, Spec, Prim, Class, Value, Inst, Var, MVar, SzArray, Array, ByRef, Pointer, Mod, Pinned}

-- where a hash begins
abbrev pub start : ℕ
start = 0xCBF29CE484222325

-- one step of FNV-1
unfoldable pub mix : ℕ → ℕ → ℕ
mix hash number = bit_xor ((hash * 0x00000100000001B3) % (2 ^ 64)) number

-- the same with a number doubled: no byte of a text is then one of the odd numbers that stand between texts
abbrev pub mix_doubled : ℕ → ℕ → ℕ
mix_doubled hash number = mix hash (2 * number)

-- the bytes of a text, or units
unfoldable pub mix_text : ℕ → List ℕ → ℕ
mix_text hash text = fold mix_doubled hash text

-- ---- names

unfoldable pub mix_id : ℕ → TypeId → ℕ
mix_id hash id = mix_text (mix (mix_text hash id.space) 0xFF) id.name

unfoldable pub mix_path : ℕ → List TypeId → ℕ
mix_path hash path = fold mix_id hash path

abbrev pub mix_scope : ℕ → Scope → ℕ
mix_scope hash Here = hash
mix_scope hash (Extern k) = mix (mix hash 0x100) k

unfoldable pub mix_name : ℕ → TypeName → ℕ
mix_name hash name = mix_path (mix_scope hash name.scope) name.path

-- ---- terms: a variant, and its parts

abbrev pub flag_number : Bool → ℕ
flag_number flag = if flag then 1 else 0

-- the sizes of an array, and its lower bounds without their signs
unfoldable pub mix_sizes : ℕ → List ℕ → ℕ
mix_sizes hash sizes = fold mix hash sizes

abbrev pub mix_bound : ℕ → ℤ → ℕ
mix_bound hash bound = mix hash (unsigned_abs bound)

unfoldable pub mix_bounds : ℕ → List ℤ → ℕ
mix_bounds hash lower = fold mix_bound hash lower

abbrev pub Mixes : Type 0
Mixes = ℕ → ℕ

abbrev pub mix_each : ℕ → List Mixes → ℕ
mix_each hash parts = fold (λ h part. part h) hash parts

abbrev pub owner_step : Owner-F Mixes Mixes → Mixes
owner_step (Name name) hash = mix_name hash name
owner_step (Spec of) hash = of hash

abbrev pub type_step : SigType-F Mixes Mixes → Mixes
type_step (Prim p) hash = mix (mix hash 0x200) (prim_place p)
type_step (Class name) hash = mix_name (mix hash 0x201) name
type_step (Value name) hash = mix_name (mix hash 0x202) name
type_step (Inst value name args) hash = mix_each (mix_name (mix (mix hash 0x203) (flag_number value)) name) args
type_step (Var n) hash = mix (mix hash 0x204) n
type_step (MVar n) hash = mix (mix hash 0x205) n
type_step (SzArray of) hash = of (mix hash 0x206)
type_step (Array of rank sizes lower) hash = of (mix_bounds (mix_sizes (mix (mix hash 0x207) rank) sizes) lower)
type_step (ByRef of) hash = of (mix hash 0x208)
type_step (Pointer of) hash = of (mix hash 0x209)
type_step (Mod required by of) hash = of (by (mix (mix hash 0x20A) (flag_number required)))
type_step (Pinned of) hash = of (mix hash 0x20B)

abbrev pub mix_type : ℕ → SigType → ℕ
mix_type hash t = fold-SigType Mixes Mixes owner_step type_step t hash

abbrev pub mix_owner : ℕ → Owner → ℕ
mix_owner hash o = fold-Owner Mixes Mixes owner_step type_step o hash

unfoldable pub mix_types : ℕ → List SigType → ℕ
mix_types hash ts = fold mix_type hash ts

-- ---- references

unfoldable pub mix_signature : ℕ → MethodSig → ℕ
mix_signature hash s = mix_types (mix_type (mix hash s.generic) s.ret) s.params

abbrev pub mix_arguments : ℕ → Option (List SigType) → ℕ
mix_arguments hash None = hash
mix_arguments hash (Some args) = mix_types (mix hash 0x300) args

unfoldable pub mix_method : ℕ → MethodRef → ℕ
mix_method hash m = mix_arguments (mix_signature (mix_text (mix_owner hash m.owner) m.name) m.sig) m.args

unfoldable pub mix_field : ℕ → FieldRef → ℕ
mix_field hash f = mix_type (mix_text (mix_owner hash f.owner) f.name) f.of

-- a member by its name and its signature
unfoldable pub hash_member : List ℕ → MethodSig → ℕ
hash_member name sig = mix_signature (mix_text start name) sig
