-- Tokens and coded indexes of rows (ECMA-335 II.24.2.6, III.1.9).
use Rattle.std.specs.Prelude.{◌≡◌, ℕ, ◌+◌, ◌*◌, ◌/◌, ◌%◌, ◌^◌, ◌<◌}
use Rattle.std.specs.Option.{option_map_or}
use Rattle.metadata_tables.specs.CodedIndex.{packed}
use Rattle.metadata_tables.specs.declared.coded.Coded.{Coded}

-- the token of a row
abbrev pub token_of : ℕ → ℕ → ℕ
token_of table row = table * 2 ^ 24 + row

-- the token of a row, which has three bytes in it
pub record IsToken (token table row : ℕ) : Type 0 where
  pub is : token ≡ token_of table row
  pub fits : row < 2 ^ 24

-- the coded index of a row; 0 for a table that it can't name
abbrev pub index_of : Coded → ℕ → ℕ → ℕ
index_of kind table row = option_map_or (λ value. value) (packed kind table row) 0

-- the coded index of the row with a token
abbrev pub index_of_token : Coded → ℕ → ℕ
index_of_token kind token = index_of kind (token / 2 ^ 24) (token % 2 ^ 24)
