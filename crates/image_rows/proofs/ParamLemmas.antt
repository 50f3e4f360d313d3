-- The rows of Param.
use Rattle.std.proofs.Common.{◌≡◌, refl, ℕ, ◌+◌, ◌<◌, ◌≤◌, ◌^◌, List, [], ◌∷◌, length, arith}
use Rattle.metadata_tables.specs.Encoding.{AddsRow, IsRowOf}
use Rattle.metadata_tables.specs.Laws.{RowOfColumns}
use Rattle.metadata_tables.specs.Schema.{schema}
use Rattle.assembly_tree.specs.declared.members.Param.{Param}
use Rattle.image_tokens.specs.Members.{Leaves, IsTextAt}
use Rattle.image_rows.specs.ParamRows.{param_flags, IsParamRow, param_bytes, IsPlainParam}
use Rattle.image_members.specs.Pushing.{Tables, Pushes}
use Rattle.image_tokens.specs.References.{Grows, size}
use Rattle.image_tokens.specs.declared.references.References.{References}
use Rattle.image_tokens.proofs.PathLemmas.{text_kept}
use Rattle.image_members.proofs.PushLemmas.{pushes_one}

pub param_cells : RowOfColumns → (flags number name : ℕ) → flags < 2 ^ 16 → number < 2 ^ 16 → IsRowOf 0x08 (flags ∷ number ∷ name ∷ [])
unfolding schema
param_cells law flags number name f n = law 0x08 (flags ∷ number ∷ name ∷ []) (omega arith) (f, (n, (tt, tt)))

pub param_kept : (a b : References) → Grows a b → (cells : List ℕ) (p : Param) → IsParamRow a cells p → IsParamRow b cells p
param_kept a b g cells p h = record { name = h.name; are = h.are; name_is = text_kept a.heaps.strings b.heaps.strings p.name h.name g.strings h.name_is }

pub param_bytes_are : (p : Param) → param_bytes p ≡ length p.name + 1
unfolding param_bytes
param_bytes_are p = refl

pub param_pushed : (a b : References) (from to : Tables) (p : Param) (name : ℕ) → Leaves (IsTextAt p.name) a b (length p.name + 1) name
    → AddsRow from to 0x08 (param_flags p ∷ p.number ∷ name ∷ []) → Pushes 0x08 IsParamRow param_bytes (p ∷ []) a b from to
param_pushed a b from to p name t row =
    let bytes = param_bytes_are p in
    let first = t.room in
    pushes_one 0x08 IsParamRow param_bytes param_kept a b from to (param_flags p ∷ p.number ∷ name ∷ []) p t.grows t.known (omega arith) row (record { name = name; are = refl; name_is = t.is })

-- a parameter stays as it is
abbrev pub CanPushParam : References → Param → Type 0
CanPushParam r p = IsPlainParam p

pub param_can : (a b : References) → Grows a b → (p : Param) → CanPushParam a p → CanPushParam b p
param_can a b g p h = h
