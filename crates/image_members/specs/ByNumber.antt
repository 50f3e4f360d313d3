-- What rows own, by the number of the row and then by its table: the order of the tables that are sorted by a coded index, which
-- has the row above the table's tag (ECMA-335 II.22, II.24.2.6).
use Rattle.std.specs.Prelude.{ℕ, ◌+◌, List, [], map, slice_get, Option, None, Some}
use Rattle.std.specs.List.{flat_map, range_with_len}
use Rattle.metadata_tables.specs.declared.coded.Coded.{Coded}
use Rattle.image_tokens.specs.Indexes.{index_of}

abbrev pub or_none : {X : Type 0} → Option (List X) → List X
or_none None = []
or_none (Some xs) = xs

-- what row `k + 1` of a table owns, each item with the row's coded index; there is a list for each row
abbrev pub owned_in : {X : Type 0} → Coded → ℕ → ℕ × List (List X) → List (ℕ × X)
owned_in {X} kind k (table, lists) = map (λ (x : X). (index_of kind table (k + 1), x)) (or_none (slice_get lists k))

-- what the rows of this number own in these tables
abbrev pub owned_at : {X : Type 0} → Coded → List (ℕ × List (List X)) → ℕ → List (ℕ × X)
owned_at kind tables k = flat_map (owned_in kind k) tables

-- what the first rows own, so many of each table
abbrev pub by_number : {X : Type 0} → Coded → List (ℕ × List (List X)) → ℕ → List (ℕ × X)
by_number kind tables count = flat_map (owned_at kind tables) (range_with_len 0 count)
