-- No row of a table of references stands twice in a laid-out image, and no text, blob or identifier that a row has (ECMA-335 II.22,
-- II.24.2.3 to II.24.2.5).
use Rattle.std.specs.Prelude.{ℕ, List}
use Rattle.assembly_tree.specs.declared.assembly.Assembly.{Assembly}
use Rattle.heaps.specs.Content.{HasText, HasBlob, HasGuid}
use Rattle.image_tokens.specs.declared.references.References.{References}
use Rattle.image_rows.specs.Filled.{IsFilled}
use Rattle.image_members.specs.Pushing.{Tables}
use Rattle.image_members.specs.declared.classes.Class.{Class}
use Rattle.image_layout.specs.LaidOut.{HoldsMetadata}
use Rattle.image_model.specs.Streams.{strings_of, guids_of, blobs_of}
use Rattle.image_model.specs.Tidy.{HasRowsOnce, HoldsOnce, IsCellOf, IsStrings, IsGuids, IsBlobs}
use Rattle.laws_image_parts.specs.tidiness.Distinct.{HasDistinctContents, HasDistinctRows, HasTwoCells}

-- no two of the indexes that rows have lead to one content
pub record HasContentsOnce (image : List ℕ) : Type 0 where
  pub strings : HoldsOnce (IsCellOf image IsStrings) (HasText (strings_of image))
  pub guids : HoldsOnce (IsCellOf image IsGuids) (HasGuid (guids_of image))
  pub blobs : HoldsOnce (IsCellOf image IsBlobs) (HasBlob (blobs_of image))

-- ---- laws

abbrev pub RowsStandOnce : Type 0
RowsStandOnce =
    (a : Assembly) (classes : List Class) (r : References) (tables : Tables) (code id image : List ℕ) → IsFilled a classes r tables code
    → HoldsMetadata r tables id image → HasDistinctRows r → HasTwoCells r → HasRowsOnce image

abbrev pub ContentsStandOnce : Type 0
ContentsStandOnce =
    (a : Assembly) (classes : List Class) (r : References) (tables : Tables) (code id image : List ℕ) → IsFilled a classes r tables code
    → HoldsMetadata r tables id image → HasDistinctContents r → HasContentsOnce image
