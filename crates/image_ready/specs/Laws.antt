-- Where no demand on an image fails, its parts can be read of what is kept.
use Rattle.std.specs.Prelude.{ℕ, ◌^◌, ◌≤◌, List, length, slice_index}
use Rattle.pe_layout.specs.FileMap.{readable}
use Rattle.type_terms.specs.declared.term.SigType.{SigType}
use Rattle.assembly_tree.specs.declared.assembly.Assembly.{Assembly}
use Rattle.body_codec.specs.Names.{NameMap}
use Rattle.image_model.specs.Columns.{data_rva, data_field}
use Rattle.image_model.specs.Faults.{RowRule, Holds, HasTables}
use Rattle.image_model.specs.Members.{HasDataSize}
use Rattle.image_model.specs.Namings.{AreNamings}
use Rattle.image_model.specs.Reading.{IsAssembly}
use Rattle.image_model.specs.Rows.{HasRow}
use Rattle.image_model.specs.Streams.{tables_of}
use Rattle.image_model.specs.Terms.{FieldHas}
use Rattle.image_ready.specs.Keeping.{Keeps}
use Rattle.image_source.specs.Names.{names_of}
use Rattle.image_source.specs.Ready.{IsReady}
use Rattle.kept_names.specs.declared.names.KeptNames.{KeptNames}
use Rattle.row_parts.specs.Kinds.{AreBytes}

-- of each row of FieldRVA how many bytes the type of its field has in data
abbrev pub AreDataSizes : List ℕ → NameMap → List ℕ → Type 0
AreDataSizes image names sizes =
    (row : ℕ) → HasRow image 0x1D row → (of : SigType) × FieldHas image names (data_field image row) of
    × HasDataSize image of (slice_index sizes row) × (slice_index sizes row ≤ length (readable image (data_rva image row)))

-- I1 to I23 hold of an image of at most 2^26 bytes, and what is kept is what its tokens name
pub record MeetsAll (image : List ℕ) (names : NameMap) (kept : KeptNames) (sizes : List ℕ) : Type 0 where
  pub short : length image ≤ 2 ^ 26
  pub bytes : AreBytes (tables_of image)
  pub tables : HasTables image
  pub named : AreNamings image names
  pub rows : (rule : RowRule) → Holds image names rule
  pub kept_are : Keeps image names kept
  pub sizes_are : AreDataSizes image names sizes

abbrev pub ImagesAreReady : Type 0
ImagesAreReady = (image : List ℕ) (names : NameMap) (kept : KeptNames) (sizes : List ℕ) → MeetsAll image names kept sizes → IsReady image kept sizes

-- What is read of what is kept is what the image gives.
abbrev pub ReadIsTrue : Type 0
ReadIsTrue =
    (image : List ℕ) (names : NameMap) (kept : KeptNames) (sizes : List ℕ) (a : Assembly) → MeetsAll image names kept sizes → IsAssembly image (names_of kept) a
    → IsAssembly image names a
