-- The rows of Constant (ECMA-335 II.22.9).
use Rattle.std.specs.Prelude.{◌≡◌, ℕ, ◌+◌, ◌^◌, ◌<◌, List, [], ◌∷◌, map, length, Option, None, Some}
use Rattle.assembly_tree.specs.declared.members.Constant.{Constant}
use Rattle.metadata_tables.specs.declared.coded.Coded.TheVariants.{HasConstant}
use Rattle.image_tokens.specs.Blobs.{HoldsBlob}
use Rattle.image_members.specs.ByNumber.{owned_in, owned_at, by_number}
use Rattle.image_members.specs.Constants.{element_of, value_of}
use Rattle.image_members.specs.Places.{lent}
use Rattle.image_members.specs.declared.constant_rows.Valued.{Valued}
use Rattle.image_tokens.specs.declared.references.References.{References}

abbrev pub stated_constant : Option Constant → List Constant
stated_constant None = []
stated_constant (Some c) = c ∷ []

-- the constant of a parent, if it has one
abbrev pub constant_with : ℕ → Option Constant → List (ℕ × Constant)
constant_with parent c = map (λ (x : Constant). (parent, x)) (stated_constant c)

abbrev pub with_constants : Valued → ℕ × List (List Constant)
with_constants t = (t.table, map stated_constant (lent t.of))

abbrev pub constants_in : ℕ → Valued → List (ℕ × Constant)
constants_in k t = owned_in HasConstant k (with_constants t)

abbrev pub constants_at : List Valued → ℕ → List (ℕ × Constant)
constants_at tables k = owned_at HasConstant (map with_constants tables) k

abbrev pub all_constants : List Valued → ℕ → List (ℕ × Constant)
all_constants tables count = by_number HasConstant (map with_constants tables) count

-- type, a zero, parent and value
pub record IsConstantRow (r : References) (cells : List ℕ) (c : ℕ × Constant) : Type 0 where
  pub value : ℕ
  pub are : cells ≡ element_of c.1 ∷ 0 ∷ c.0 ∷ value ∷ []
  pub value_is : HoldsBlob r.heaps.blobs (value_of c.1) value

-- the bytes of a value with its length
unfoldable pub constant_bytes : ℕ × Constant → ℕ
constant_bytes c = length (value_of c.1) + 4

-- a string has so few units that memory can hold their bytes
abbrev pub CanPushConstant : References → ℕ × Constant → Type 0
CanPushConstant r c = length (value_of c.1) < 2 ^ 32
