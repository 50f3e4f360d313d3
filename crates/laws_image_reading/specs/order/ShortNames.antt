-- How long the paths of the types are that an image refers to (ECMA-335 II.22.38).
use Rattle.std.specs.Prelude.{◌≤◌, length}
use Rattle.image_tokens.specs.References.{IsNameRow}
use Rattle.image_tokens.specs.Rows.{EachRow}
use Rattle.image_tokens.specs.declared.references.References.{References}
use Rattle.image_tokens.specs.declared.row_set.Cells.{Cells}
use Rattle.image_model.specs.Structure.{max_path}

-- a row of TypeRef is that of a type on the path of a name which has so few parts
pub record HasShortName (r : References) (cells : Cells) : Type 0 where
  pub row : IsNameRow r cells
  pub short : length row.name.path ≤ max_path

-- each row is
abbrev pub NamesAreShort : References → Type 0
NamesAreShort r = EachRow (HasShortName r) r.referred.names
