-- The rows of CustomAttribute (ECMA-335 II.22.10).
use Rattle.std.specs.Prelude.{◌≡◌, ℕ, ◌+◌, List, [], ◌∷◌, map, length}
use Rattle.assembly_tree.specs.Weight.{method_ref_weight}
use Rattle.assembly_tree.specs.declared.members.Attribute.{Attribute}
use Rattle.metadata_tables.specs.declared.coded.Coded.TheVariants.{HasCustomAttribute, CustomAttributeType}
use Rattle.image_tokens.specs.Blobs.{HoldsBlob}
use Rattle.image_members.specs.ByNumber.{owned_in, owned_at, by_number}
use Rattle.image_tokens.specs.Indexes.{index_of_token}
use Rattle.image_tokens.specs.Members.{HasMethod}
use Rattle.image_members.specs.Places.{lent}
use Rattle.image_tokens.specs.Writable.{IsMethodRefWritable}
use Rattle.image_rows.specs.declared.attribute_rows.Attributed.{Attributed}
use Rattle.image_tokens.specs.declared.references.References.{References}

-- an attribute, with the coded index of its parent
abbrev pub attributes_with : ℕ → List Attribute → List (ℕ × Attribute)
attributes_with parent attributes = map (λ (a : Attribute). (parent, a)) attributes

-- those that the rows of tables own
abbrev pub attributes_in : ℕ → Attributed → List (ℕ × Attribute)
attributes_in k t = owned_in HasCustomAttribute k (t.table, lent t.of)

abbrev pub tables_of : List Attributed → List (ℕ × List (List Attribute))
tables_of tables = map (λ (t : Attributed). (t.table, lent t.of)) tables

abbrev pub attributes_at : List Attributed → ℕ → List (ℕ × Attribute)
attributes_at tables k = owned_at HasCustomAttribute (tables_of tables) k

abbrev pub all_attributes : List Attributed → ℕ → List (ℕ × Attribute)
all_attributes tables count = by_number HasCustomAttribute (tables_of tables) count

-- parent, constructor and value
pub record IsAttributeRow (r : References) (cells : List ℕ) (a : ℕ × Attribute) : Type 0 where
  pub token : ℕ
  pub value : ℕ
  pub are : cells ≡ a.0 ∷ index_of_token CustomAttributeType token ∷ value ∷ []
  pub token_is : HasMethod a.1.constructor r token
  pub value_is : HoldsBlob r.heaps.blobs a.1.value value

-- what the constructor brings, and the bytes of a value with its length
unfoldable pub attribute_bytes : ℕ × Attribute → ℕ
attribute_bytes a = method_ref_weight a.1.constructor + (length a.1.value + 4)

abbrev pub CanPushAttribute : References → ℕ × Attribute → Type 0
CanPushAttribute r a = IsMethodRefWritable r a.1.constructor
