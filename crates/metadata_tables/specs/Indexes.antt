-- Row numbers as cells, and that they fit (ECMA-335 II.22, II.24.2.6).
use Rattle.std.specs.Prelude.{◌≡◌, ℕ, ◌+◌, ◌*◌, ◌^◌, ◌<◌, ◌≤◌, ◌==◌, ◌&&◌, Some, if◌then◌else◌}
use Rattle.metadata_tables.specs.CodedIndex.{tag_bits, tags, tag_of}
use Rattle.metadata_tables.specs.Stream.{simple_width, coded_width}
use Rattle.metadata_tables.specs.declared.coded.Coded.{Coded}

-- The cell of a run that begins at this row, in a table of `count` rows. A run may begin one row behind
-- the last; where the table has 65,535 rows the column has 2 bytes, which spell no 65,536, and holds 0.
abbrev pub run_cell : ℕ → ℕ → ℕ
run_cell count row = if count == 65535 && row == 65536 then 0 else row

-- the row at which a run begins, by its cell
abbrev pub run_row : ℕ → ℕ → ℕ
run_row count cell = if count == 65535 && cell == 0 then 65536 else cell

-- Row numbers of tables with fewer than 2 ^ 24 rows fit the widths that follow from the row counts.
pub record IndexesFit : Type 0 where
  pub simple : (counts : ℕ → ℕ) (table row : ℕ) → row ≤ counts table → counts table < 2 ^ 24
      → row < 256 ^ simple_width counts table
  pub run : (counts : ℕ → ℕ) (table row : ℕ) → row ≤ counts table + 1 → counts table < 2 ^ 24
      → run_cell (counts table) row < 256 ^ simple_width counts table
  pub run_back : (count row : ℕ) → 0 < row → run_row count (run_cell count row) ≡ row
  pub coded : (counts : ℕ → ℕ) (kind : Coded) (table row tag : ℕ) → tag_of kind table ≡ Some tag
      → row ≤ counts table → counts table < 2 ^ 24
      → row * 2 ^ tag_bits kind + tag < 256 ^ coded_width counts (tag_bits kind) (tags kind)
