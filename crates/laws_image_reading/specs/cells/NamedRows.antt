-- Names in the rows of references (ECMA-335 II.22.25, II.22.38).
use Rattle.std.specs.Prelude.{◌≢◌, []}
use Rattle.std.specs.List.{AllByRecursion}
use Rattle.type_terms.specs.declared.name.TypeId.{TypeId}
use Rattle.image_tokens.specs.References.{IsNameRow, IsReferredMember}
use Rattle.image_tokens.specs.Rows.{EachRow}
use Rattle.image_tokens.specs.declared.references.References.{References}
use Rattle.image_tokens.specs.declared.row_set.Cells.{Cells}

-- a row of TypeRef lies on the path of a name in which no type's name is empty
pub record IsNamedType (r : References) (cells : Cells) : Type 0 where
  pub row : IsNameRow r cells
  pub named : AllByRecursion (λ (id : TypeId). id.name ≢ []) row.name.path

-- a row of MemberRef has a name that isn't empty
pub record IsNamedMember (r : References) (cells : Cells) : Type 0 where
  pub row : IsReferredMember r cells
  pub named : row.name ≢ []

-- Each row of TypeRef and of MemberRef has a name. It is so where the names of what the rows stand for are those of a well-formed
-- assembly.
pub record HasNamedRows (r : References) : Type 0 where
  pub names : EachRow (IsNamedType r) r.referred.names
  pub members : EachRow (IsNamedMember r) r.referred.members
