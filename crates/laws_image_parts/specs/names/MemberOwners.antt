-- Each field and each method of an image belongs to one type (ECMA-335 II.22.37, FieldList and MethodList).
use Rattle.std.specs.Prelude.{◌≡◌, ℕ, List, Contains}
use Rattle.assembly_tree.specs.declared.assembly.Assembly.{Assembly}
use Rattle.image_tokens.specs.declared.references.References.{References}
use Rattle.image_members.specs.Pushing.{Tables}
use Rattle.image_members.specs.declared.classes.Class.{Class}
use Rattle.image_model.specs.Rows.{HasRow, fields_of, methods_of}
use Rattle.laws_image_parts.specs.names.Written.{IsWritten}

-- each row of a table is in the run of one type
pub record HaveOneOwner (image : List ℕ) (table : ℕ) (run_of : ℕ → List ℕ) : Type 0 where
  pub has : (row : ℕ) → HasRow image table row → (type : ℕ) × HasRow image 0x02 type × Contains (run_of type) row
  pub one : (row type other : ℕ) → HasRow image 0x02 type → HasRow image 0x02 other → Contains (run_of type) row → Contains (run_of other) row → type ≡ other

pub record MembersOwned (image : List ℕ) : Type 0 where
  pub fields : HaveOneOwner image 0x04 (fields_of image)
  pub methods : HaveOneOwner image 0x06 (methods_of image)

-- ---- the law

abbrev pub MembersAreOwned : Type 0
MembersAreOwned =
    (a : Assembly) (classes : List Class) (r : References) (tables : Tables) (code image : List ℕ) → IsWritten a classes r tables code image → MembersOwned image
