-- What the streams of a laid-out image say: the rows, and the contents of the heaps.
use Rattle.std.specs.Prelude.{◌≡◌, ℕ, suc, ◌<◌, List, length}
use Rattle.heaps.specs.Content.{HasText, HasBlob, HasUnits}
use Rattle.heaps.specs.Written.{HasShortBlob, HasWrittenUnits}
use Rattle.image_model.specs.Streams.{tables_of, strings_of, user_of, blobs_of}
use Rattle.metadata_tables.specs.Encoding.{rows_in, cell_of}
use Rattle.metadata_tables.specs.Faults.{IsWhole}
use Rattle.metadata_tables.specs.Schema.{columns_of}
use Rattle.metadata_tables.specs.Stream.{heap_sizes, row_count, cell}
use Rattle.image_tokens.specs.declared.references.References.{References}
use Rattle.image_layout.specs.LaidOut.{HoldsMetadata}
use Rattle.image_layout.specs.Sizes.{heap_flags}
use Rattle.image_members.specs.Pushing.{Tables}

-- the stream of tables has these rows, and no others
pub record ReadsTables (r : References) (tables : Tables) (image : List ℕ) : Type 0 where
  pub whole : IsWhole (tables_of image)
  pub heaps : heap_sizes (tables_of image) ≡ heap_flags r
  pub counts : (table : ℕ) → row_count (tables_of image) table ≡ rows_in tables table
  pub cells : (table row column : ℕ) → row < rows_in tables table → column < length (columns_of table)
      → cell (tables_of image) table (suc row) column ≡ cell_of tables table row column

-- what the heaps hold is read at the same indexes
pub record ReadsHeaps (r : References) (image : List ℕ) : Type 0 where
  pub texts : (index : ℕ) (text : List ℕ) → HasText r.heaps.strings.bytes index text → HasText (strings_of image) index text
  pub blobs : (index : ℕ) (blob : List ℕ) → HasBlob r.heaps.blobs.bytes index blob → HasBlob (blobs_of image) index blob
  pub units : (index : ℕ) (units : List ℕ) → HasUnits r.heaps.user.bytes index units → HasUnits (user_of image) index units
  pub short : (index : ℕ) (blob : List ℕ) → HasShortBlob r.heaps.blobs.bytes index blob → HasShortBlob (blobs_of image) index blob
  pub written : (index : ℕ) (units : List ℕ) → HasWrittenUnits r.heaps.user.bytes index units → HasWrittenUnits (user_of image) index units

-- ---- laws

abbrev pub TablesAreRead : Type 0
TablesAreRead = (r : References) (tables : Tables) (id image : List ℕ) → HoldsMetadata r tables id image → ReadsTables r tables image

abbrev pub HeapsAreRead : Type 0
HeapsAreRead = (r : References) (tables : Tables) (id image : List ℕ) → HoldsMetadata r tables id image → ReadsHeaps r image
