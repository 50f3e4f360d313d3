-- Rows as numbers.
use Rattle.std.specs.Prelude.{ℕ, ◌+◌, ◌*◌, ◌^◌}

-- the number of a row of a table
abbrev pub row_key : (table row : ℕ) → ℕ
row_key table row = table * 2 ^ 32 + row
