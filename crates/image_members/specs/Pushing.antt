-- Rows of tables as they are made: a table has a row for each of its items, in order (ECMA-335 II.22, II.24.2.6).
use Rattle.std.specs.Prelude.{◌≡◌, ◌≢◌, ℕ, ◌+◌, ◌^◌, ◌<◌, ◌≤◌, List, ◌++◌, length, sum_by}
use Rattle.std.specs.List.{AllByRecursion, AllZip}
use Rattle.metadata_tables.specs.Encoding.{rows_of, rows_in}
use Rattle.image_tokens.specs.References.{size, Grows, AreKnown}
use Rattle.image_tokens.specs.declared.references.References.{References}

-- the tables, each the list of its rows, each the list of its cells
abbrev pub Tables : Type 0
Tables = List (List (List ℕ))

-- rows have been added at the end of a table, and no other table has changed
pub record AddsRows (table : ℕ) (rows : List (List ℕ)) (from to : Tables) : Type 0 where
  pub added : rows_of to table ≡ rows_of from table ++ rows
  pub others : (other : ℕ) → other ≢ table → rows_of to other ≡ rows_of from other

-- a table has got rows for these items, and so many bytes came into the heaps and rows of references at most
pub record Pushes {X : Type 0} (table : ℕ) (IsRow : References → List ℕ → X → Type 0) (weigh : X → ℕ) (items : List X) (old new : References) (from to : Tables) : Type 0 where
  pub grows : Grows old new
  pub known : AreKnown new
  pub room : size new ≤ size old + sum_by weigh items
  pub rows : List (List ℕ)
  pub adds : AddsRows table rows from to
  pub each : AllZip (IsRow new) rows items

-- such rows can be added: each item can be written, and there is room
pub record CanPush {X : Type 0} (table : ℕ) (Can : References → X → Type 0) (weigh : X → ℕ) (items : List X) (r : References) (tables : Tables) : Type 0 where
  pub known : AreKnown r
  pub each : AllByRecursion (Can r) items
  pub few : rows_in tables table + length items < 2 ^ 24
  pub room : size r + sum_by weigh items ≤ 2 ^ 26
