-- How many bytes the data of a row of FieldRVA has (II.16.3, II.22.18).
use Rattle.std.specs.Prelude.{ℕ, ◌≤◌, List, length}
use Rattle.pe_layout.specs.FileMap.{readable}
use Rattle.type_terms.specs.declared.term.SigType.{SigType}
use Rattle.body_codec.specs.Names.{NameMap}
use Rattle.image_model.specs.Columns.{data_field, data_rva}
use Rattle.image_model.specs.Members.{HasDataSize}
use Rattle.image_model.specs.Terms.{FieldHas}

-- the type of the field has this size in data, and so many bytes can be read there
abbrev pub IsSizeAt : List ℕ → NameMap → (row size : ℕ) → Type 0
IsSizeAt image names row size = (of : SigType) × FieldHas image names (data_field image row) of × HasDataSize image of size × (size ≤ length (readable image (data_rva image row)))
