-- Kinds of columns (II.22, II.24.2.6).
use Rattle.std.specs.Prelude.{ℕ, ◌<◌, ◌==◌, List, slice_index, Bool, true, false}
use Rattle.metadata_tables.specs.declared.schema.Column.{Column}
use Rattle.metadata_tables.specs.declared.schema.Column.TheVariants.{Number, Strings, Blobs}

-- a column of texts
abbrev pub is_strings : Column → Bool
is_strings (Strings nil) = true
is_strings _ = false

-- a column of blobs
abbrev pub is_blobs : Column → Bool
is_blobs (Blobs nil) = true
is_blobs _ = false

-- a column of numbers of two bytes
abbrev pub is_short : Column → Bool
is_short (Number bytes) = bytes == 2
is_short _ = false

-- numbers that are bytes
abbrev pub AreBytes : List ℕ → Type 0
AreBytes bytes = (k : ℕ) → slice_index bytes k < 256
