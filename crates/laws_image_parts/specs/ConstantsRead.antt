-- The constants of fields, parameters and properties are read as they were written (ECMA-335 II.22.9, II.23.1.16).
use Rattle.std.specs.Prelude.{◌≡◌, ℕ, ◌<◌, ◌^◌, ⊤, true, List, Option, Some}
use Rattle.std.specs.List.{AllByRecursion}
use Rattle.assembly_tree.specs.WellFormedMembers.{is_integer}
use Rattle.assembly_tree.specs.declared.members.Constant.{Constant}
use Rattle.assembly_tree.specs.declared.members.Constant.TheVariants as constant
use Rattle.image_tokens.specs.declared.references.References.{References}
use Rattle.image_members.specs.ConstantRows.{stated_constant}
use Rattle.image_members.specs.Constants.{element_of, value_of}
use Rattle.image_layout.specs.Laws.{ReadsHeaps}
use Rattle.image_model.specs.Constants.{constant_of}
use Rattle.image_model.specs.Members.{constants_of, ConstantIs}
use Rattle.image_model.specs.Reading.{IsGiven}
use Rattle.laws_image_parts.specs.OwnedRows.{ConstantOf}

-- the value of a constant is one of its type
abbrev pub HasRange : Constant → Type 0
HasRange (constant.Bool b) = ⊤
HasRange (constant.Char unit) = unit < 2 ^ 16
HasRange (constant.Int of n) = is_integer of n ≡ true
HasRange (constant.Real4 bits) = bits < 2 ^ 32
HasRange (constant.Real8 bits) = bits < 2 ^ 64
HasRange (constant.Str units) = AllByRecursion (λ unit. unit < 2 ^ 16) units
HasRange constant.Null = ⊤

pub record ConstantsAreRead : Type 0 where
  pub back : (c : Constant) → HasRange c → constant_of (element_of c) (value_of c) ≡ Some c
  pub given : (r : References) (image : List ℕ) (table row : ℕ) (c : Option Constant) → ReadsHeaps r image → AllByRecursion HasRange (stated_constant c)
      → ConstantOf r image table row (stated_constant c) → IsGiven (ConstantIs image) (constants_of image table row) c
