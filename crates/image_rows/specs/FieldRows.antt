-- The rows of Field and FieldLayout, in the order in which fields are declared (ECMA-335 II.22.15, II.22.16, II.23.1.5).
use Rattle.std.specs.Prelude.{◌≡◌, ℕ, List, [], ◌∷◌, bit_or, Option, None, Some}
use Rattle.std.specs.List.{AllZip}
use Rattle.assembly_tree.specs.declared.members.Field.{Field}
use Rattle.sig_codec.specs.Signature.{SpellsField}
use Rattle.image_members.specs.DeclaredMembers.{IsFieldOf}
use Rattle.image_members.specs.Pushing.{Tables, AddsRows}
use Rattle.image_tokens.specs.References.{HasSignature}
use Rattle.image_tokens.specs.Texts.{HoldsText}
use Rattle.image_tokens.specs.declared.references.References.{References}
use Rattle.image_tokens.specs.declared.row_set.Cells.{Cells}

-- a bit where something is there
abbrev pub flag_if : {X : Type 0} → ℕ → Option X → ℕ
flag_if bit None = 0
flag_if bit (Some x) = bit

-- the flags, with HasDefault where there is a constant and HasFieldRVA where there is data
abbrev pub field_flags : Field → ℕ
field_flags f = bit_or (bit_or f.flags (flag_if 0x8000 f.constant)) (flag_if 0x100 f.content)

-- flags, name and signature
pub record IsFieldRow (r : References) (cells : List ℕ) (f : Field) : Type 0 where
  pub name : ℕ
  pub signature : ℕ
  pub are : cells ≡ field_flags f ∷ name ∷ signature ∷ []
  pub name_is : HoldsText r.heaps.strings f.name name
  pub signature_is : HasSignature SpellsField r f.of signature

-- FieldLayout: the offset of a field, and its row, where it has an offset (II.22.16)
abbrev pub stated_offset : ℕ → Option ℕ → List (List ℕ)
stated_offset row None = []
stated_offset row (Some offset) = (offset ∷ row ∷ []) ∷ []

abbrev pub offset_rows : ℕ × Field → List (List ℕ)
offset_rows (row, f) = stated_offset row f.offset

-- a declared row is that of a field, whatever its type
abbrev pub IsFieldAt : References → Cells → Field → Type 0
IsFieldAt r cells f = (type : ℕ) × IsFieldOf r cells (type, f)

-- a table has got rows for these items
pub record AddsItems {X : Type 0} (table : ℕ) (IsRow : List ℕ → X → Type 0) (items : List X) (from to : Tables) : Type 0 where
  pub rows : List (List ℕ)
  pub adds : AddsRows table rows from to
  pub each : AllZip IsRow rows items
