-- Rows of tables, with one row more.
use Rattle.std.proofs.Common.{◌≡◌, ℕ, ◌-◌, ◌^◌, ◌<◌, List, [], ◌∷◌, ◌++◌, length, get_or, set, refl, ap, ◌∙◌, arith, ⊎_elim}
use Rattle.std.specs.List.{All}
use Rattle.std.proofs.lemmas.Bool.{cases_eq, cases_lt}
use Rattle.std.proofs.lemmas.List.{get_or-set_same, get_or-set_other, get_or_default, get_or_append_left, get_or_at, length_push, get_or_past}
use Rattle.metadata_tables.specs.Schema.{columns_of}
use Rattle.metadata_tables.specs.Encoding.{rows_of, rows_in, AddsRow, AreRows, IsRowOf}
use Rattle.metadata_tables.proofs.Table.{columns_past}

-- a table that has columns is below 2D
pub table_known : (t : ℕ) → 0 < length (columns_of t) → t < 45
table_known t some = ⊎_elim
    (λ below. below)
    (λ past. let none = ap length (columns_past t past) in absurd (omega (arith, none, some)))
    (cases_lt t 45)

pub added : (tables : List (List (List ℕ))) (t table : ℕ) (rows : List (List ℕ)) (cells : List ℕ) → t ≡ table → t < length tables → rows ≡ rows_of tables t ++ cells ∷ [] → AddsRow tables (set tables t rows) table cells
added tables t table rows cells e inside is = record {
  added = rw (← e) (get_or-set_same tables t rows [] inside ∙ is);
  others = λ other apart. get_or-set_other tables t other rows [] (λ same. apart (same ∙ e));
}

-- in the tables after an added row, each row is one of before or the added one
pub are_rows : (old new : List (List (List ℕ))) (table : ℕ) (cells : List ℕ) → length new ≡ length old → AreRows old → AddsRow old new table cells → rows_in old table < 2 ^ 24 - 1 → IsRowOf table cells → AreRows new
are_rows old new table cells long are adds room is = record {
  all = long ∙ are.all;
  counts = λ t. ⊎_elim
      (λ same. let more = ap length adds.added ∙ length_push (rows_of old table) cells in rw same (omega (arith, more, room)))
      (λ apart. let e = ap length (adds.others t apart) in let few = are.counts t in omega (arith, e, few))
      (cases_eq t table);
  rows = λ t row h. ⊎_elim
      (λ same. let more = ap length adds.added ∙ length_push (rows_of old table) cells in
      let there = rw same at h in
      rw (same, adds.added) (⊎_elim
      (λ before. let e = get_or_append_left (rows_of old table) (cells ∷ []) [] row before in rw e (are.rows table row before))
      (λ after. let last : length (rows_of old table) ≡ row = omega (arith, after, more, there) in
      let e = get_or_at (rows_of old table) cells [] [] row last in rw e is)
      (cases_lt row (rows_in old table))))
      (λ apart. let e = adds.others t apart in rw e (are.rows t row (rw e at h)))
      (cases_eq t table);
}

-- each row of a table has as many cells as the table has columns
pub alike : (tables : List (List (List ℕ))) (table n : ℕ) → AreRows tables → n ≡ length (columns_of table) → All (λ row. length row ≡ n) (rows_of tables table)
alike tables table n are e k d h =
    let same = get_or_default (rows_of tables table) k d [] h in
    rw (same, e) (are.rows table k h).cells_count

-- no rows
pub none : (tables : List (List (List ℕ))) → length tables ≡ 45 → ((t : ℕ) → t < 45 → get_or tables t [] ≡ []) → (t : ℕ) → rows_of tables t ≡ []
none tables long each t = ⊎_elim
    (each t)
    (λ past. get_or_past tables t [] (omega (arith, long, past)))
    (cases_lt t 45)

pub are_none : (tables : List (List (List ℕ))) → length tables ≡ 45 → ((t : ℕ) → t < 45 → get_or tables t [] ≡ []) → AreRows tables
are_none tables long each = record {
  all = long;
  counts = λ t. let e = ap length (none tables long each t) in omega (arith, e);
  rows = λ t row h. let e = ap length (none tables long each t) in absurd (omega (arith, e, h));
}

-- what a write of a table's longer list of rows leaves
pub added_at : (inside now : List (List (List ℕ))) (t table : ℕ) (d rows : List (List ℕ)) (cells : List ℕ) → inside ≡ now → t ≡ table → t < length inside → rows ≡ get_or inside t d ++ cells ∷ [] → AddsRow now (set inside t rows) table cells
added_at inside now t table d rows cells view e there is =
    let same = get_or_default inside t d [] there in
    rw (← view) (added inside t table rows cells e there (rw (← same) is))

pub rows_at : (inside now : List (List (List ℕ))) (t table : ℕ) (d : List (List ℕ)) → inside ≡ now → t ≡ table → t < length inside → get_or inside t d ≡ rows_of now table
rows_at inside now t table d view e there =
    let same = get_or_default inside t d [] there in rw (same, view, e) refl

pub rows_of-set : (tables : List (List (List ℕ))) (t table : ℕ) (rows : List (List ℕ)) → t ≡ table → t < length tables → rows_of (set tables t rows) table ≡ rows
rows_of-set tables t table rows e there = rw (← e) (get_or-set_same tables t rows [] there)

-- a table that has columns is among all tables
pub table_there : (tables : List (List (List ℕ))) (t table : ℕ) → AreRows tables → t ≡ table → 0 < length (columns_of table) → t < length tables
table_there tables t table are e some =
    let known = table_known table some in omega (arith, known, e, are.all)
