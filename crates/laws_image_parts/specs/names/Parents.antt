-- Each row of MemberRef belongs to one type (ECMA-335 II.22.25).
use Rattle.std.specs.Prelude.{◌≡◌, ℕ, ◌+◌, List, Option, Some, slice_get}
use Rattle.assembly_tree.specs.declared.assembly.Assembly.{Assembly}
use Rattle.metadata_tables.specs.declared.coded.Coded.TheVariants.{MemberRefParent}
use Rattle.type_terms.specs.declared.term.Owner.{Owner}
use Rattle.image_tokens.specs.Indexes.{index_of_token}
use Rattle.image_tokens.specs.References.{tokens_of}
use Rattle.image_tokens.specs.declared.references.References.{References}
use Rattle.image_tokens.specs.declared.row_set.Cells.{Cells}
use Rattle.image_members.specs.Pushing.{Tables}
use Rattle.image_members.specs.declared.classes.Class.{Class}
use Rattle.image_model.specs.Naming.{OwnsMember}
use Rattle.image_model.specs.Rows.{HasRow}
use Rattle.laws_image_parts.specs.names.Owners.{OwnersRead}
use Rattle.laws_image_parts.specs.names.Written.{IsWritten}

-- each row has one owner, which is the type whose token its parent was made of
pub record ParentsRead (r : References) (image : List ℕ) (owners : ℕ → Option Owner) : Type 0 where
  pub has : (row : ℕ) → HasRow image 0x0A row → (owner : Owner) × OwnsMember image owners row owner
  pub one : (row : ℕ) (owner other : Owner) → OwnsMember image owners row owner → OwnsMember image owners row other → owner ≡ other
  pub made : (k : ℕ) (cells : Cells) (owner : Owner) (token : ℕ) → slice_get r.referred.members k ≡ Some cells → tokens_of r owner ≡ Some token
      → cells.first ≡ index_of_token MemberRefParent token → OwnsMember image owners (1 + k) owner

-- ---- the law

abbrev pub ParentsAreRead : Type 0
ParentsAreRead =
    (a : Assembly) (classes : List Class) (r : References) (tables : Tables) (code image : List ℕ) → IsWritten a classes r tables code image
    → (o : OwnersRead r image) → ParentsRead r image o.owners
