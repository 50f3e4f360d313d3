-- The blobs that rows of a laid-out image have, and the places of its data (ECMA-335 II.22.18, II.24.2.4).
use Rattle.std.specs.Prelude.{◌≡◌, ℕ, ◌%◌, List}
use Rattle.assembly_tree.specs.declared.assembly.Assembly.{Assembly}
use Rattle.heaps.specs.Written.{HasShortBlob}
use Rattle.image_tokens.specs.declared.references.References.{References}
use Rattle.image_rows.specs.Filled.{IsFilled}
use Rattle.image_members.specs.Pushing.{Tables}
use Rattle.image_members.specs.declared.classes.Class.{Class}
use Rattle.image_layout.specs.LaidOut.{HoldsMetadata}
use Rattle.image_model.specs.Columns.{data_rva}
use Rattle.image_model.specs.Rows.{HasRow}
use Rattle.image_model.specs.Streams.{blobs_of}
use Rattle.image_model.specs.Tidy.{IsCellOf, IsBlobs}
use Rattle.laws_image_parts.specs.tidiness.Distinct.{HasDistinctContents}

-- each blob has the shortest spelling of its length, and data begins at a multiple of 8
pub record HasShortEntries (image : List ℕ) : Type 0 where
  pub blobs : (index : ℕ) → IsCellOf image IsBlobs index → (blob : List ℕ) × HasShortBlob (blobs_of image) index blob
  pub data_placed : (row : ℕ) → HasRow image 0x1D row → data_rva image row % 8 ≡ 0

-- ---- the law

abbrev pub EntriesAreShort : Type 0
EntriesAreShort =
    (a : Assembly) (classes : List Class) (r : References) (tables : Tables) (code id image : List ℕ) → IsFilled a classes r tables code
    → HoldsMetadata r tables id image → HasDistinctContents r → HasShortEntries image
