-- How many bytes the parts of an image have at most, and how wide the indexes of its heaps are (ECMA-335 II.24.2.6).
use Rattle.std.specs.Prelude.{ℕ, ◌+◌, ◌*◌, ◌^◌, Bool, nat_le, if◌then◌else◌, List, length, sum_by}
use Rattle.std.specs.List.{range_with_len}
use Rattle.image_model.specs.Root.{filled}
use Rattle.metadata_tables.specs.Encoding.{rows_in}
use Rattle.metadata_tables.specs.Schema.{columns_of}
use Rattle.metadata_tables.specs.declared.schema.Column.{Column}
use Rattle.metadata_tables.specs.declared.schema.Column.TheVariants.{Number, Strings, Guids, Blobs, Row, Run, Tagged}
use Rattle.image_tokens.specs.declared.references.References.{References}
use Rattle.image_members.specs.Pushing.{Tables}

-- the heaps of texts, blobs and user strings
unfoldable pub heap_bytes : References → ℕ
heap_bytes r = length r.heaps.strings.bytes + length r.heaps.blobs.bytes + length r.heaps.user.bytes

-- the bytes of a column in its widest form
abbrev pub widest : Column → ℕ
widest (Number bytes) = bytes
widest (Strings nil) = 4
widest (Guids nil) = 4
widest (Blobs nil) = 4
widest (Row table) = 4
widest (Run table) = 4
widest (Tagged kind nil) = 4

unfoldable pub widest_row : ℕ → ℕ
widest_row table = sum_by widest (columns_of table)

-- the rows of the tables below n, each row in its widest form
unfoldable pub rows_bytes : Tables → ℕ → ℕ
rows_bytes tables n = sum_by (λ table. rows_in tables table * widest_row table) (range_with_len 0 n)

-- the stream of tables: 24 bytes, at most 64 row counts, and the rows
unfoldable pub stream_bytes : Tables → ℕ
stream_bytes tables = 280 + rows_bytes tables 0x2D

-- ---- the byte of heap sizes

-- indexes of a heap have 4 bytes where its stream has 2 ^ 16 bytes or more
abbrev pub is_wide : List ℕ → Bool
is_wide bytes = nat_le (2 ^ 16) (length (filled bytes))

abbrev pub flags_of : Bool → Bool → ℕ
flags_of strings blobs = (if strings then 1 else 0) + (if blobs then 4 else 0)

-- #Strings has the bit 1, #Blob the bit 4; the one identifier of #GUID wants no bit
unfoldable pub heap_flags : References → ℕ
heap_flags r = flags_of (is_wide r.heaps.strings.bytes) (is_wide r.heaps.blobs.bytes)
