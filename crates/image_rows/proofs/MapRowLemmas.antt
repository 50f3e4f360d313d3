-- The rows of EventMap and PropertyMap.
use Rattle.std.proofs.Common.{◌≡◌, ap, refl, sym, ◌∙◌, subst, ℕ, ◌+◌, ◌-◌, ◌<◌, ◌≤◌, ◌^◌, ◌==◌, Bool, true, false, cond, List, [], ◌∷◌, ◌++◌, length, arith}
use Rattle.std.specs.Prelude.{sum_by}
use Rattle.std.specs.List.{flat_map}
use Rattle.std.proofs.lemmas.List.{length-append}
use Rattle.std.proofs.lemmas.List.Sums.{sum_by-cons}
use Rattle.metadata_tables.specs.Encoding.{rows_of, rows_in, AddsRow, IsRowOf}
use Rattle.metadata_tables.specs.Indexes.{run_cell}
use Rattle.metadata_tables.specs.Laws.{RowOfColumns}
use Rattle.metadata_tables.specs.Schema.{schema}
use Rattle.image_rows.specs.MapRows.{run_rows, map_rows}
use Rattle.image_members.specs.Pushing.{Tables, AddsRows}
use Rattle.image_members.specs.declared.classes.Class.{Class}
use Rattle.image_members.proofs.EmptinessLemmas.{no_front, no_back}
use Rattle.image_members.proofs.PushLemmas.{rows_none, rows_one, rows_both}

pub event_map_cells : RowOfColumns → (row cell : ℕ) → IsRowOf 0x12 (row ∷ cell ∷ [])
unfolding schema
event_map_cells law row cell = law 0x12 (row ∷ cell ∷ []) (omega arith) (tt, (tt, tt))

pub property_map_cells : RowOfColumns → (row cell : ℕ) → IsRowOf 0x15 (row ∷ cell ∷ [])
unfolding schema
property_map_cells law row cell = law 0x15 (row ∷ cell ∷ []) (omega arith) (tt, (tt, tt))

-- ---- one type

pub no_run : (table row cell count : ℕ) (from : Tables) → (count == 0) ≡ true → AddsRows table (run_rows row cell count) from from
no_run table row cell count from e = subst (λ b. AddsRows table (cond b [] ((row ∷ cell ∷ []) ∷ [])) from from) (sym e) (rows_none table from)

pub a_run : (table row cell count : ℕ) (from to : Tables) → (count == 0) ≡ false → AddsRow from to table (row ∷ cell ∷ []) → AddsRows table (run_rows row cell count) from to
a_run table row cell count from to e h = subst (λ b. AddsRows table (cond b [] ((row ∷ cell ∷ []) ∷ [])) from to) (sym e) (rows_one table (row ∷ cell ∷ []) from to h)

short : (b : Bool) (row cell : ℕ) → length (cond b [] ((row ∷ cell ∷ []) ∷ [])) ≤ 1
short true row cell = omega arith
short false row cell = omega arith

-- where no type has items, none has a row
pub no_runs : {X : Type 0} (items : Class → List X) (all row first : ℕ) (classes : List Class) → flat_map items classes ≡ []
    → map_rows (λ c. length (items c)) all row first classes ≡ []
no_runs items all row first [] e = refl
no_runs items all row first (c ∷ cs) e =
    let none = no_front (items c) (flat_map items cs) e in
    ap (λ xs. run_rows row (run_cell all first) (length xs) ++ map_rows (λ x. length (items x)) all (row + 1) (first + length (items c)) cs) none
    ∙ no_runs items all (row + 1) (first + length (items c)) cs (no_back (items c) (flat_map items cs) e)

-- ---- each type in turn

module _ (table : ℕ) (count : Class → ℕ) (all : ℕ) where
  -- the types before `rest` have their rows; the next has this row, and its run begins at `first`
  pub record Mapped (row first : ℕ) (from to : Tables) (xs rest : List Class) : Type 0 where
    pub on : (end : Tables) → AddsRows table (map_rows count all row first rest) to end → AddsRows table (map_rows count all 2 1 xs) from end
    pub few : rows_in to table + length rest < 2 ^ 24
    pub next : row + length rest < 2 ^ 24
    pub runs : first + sum_by count rest ≤ 2 ^ 24

  pub mapped_begin : (from : Tables) (xs : List Class) → length xs < 2 ^ 24 - 2 → rows_in from table + length xs < 2 ^ 24 → sum_by count xs < 2 ^ 24 → Mapped 2 1 from from xs xs
  mapped_begin from xs long few runs = record { on = λ end h. h; few = few; next = omega arith; runs = omega arith }

  module _ (row first : ℕ) (from to : Tables) (xs rest more : List Class) (x : Class) (e : rest ≡ x ∷ more) (d : Mapped row first from to xs rest) where
    pub mapped_few : rows_in to table < 2 ^ 24 - 1
    mapped_few = let few = d.few in let long = ap (length {A = Class}) e in omega arith

    pub mapped_row : row < 2 ^ 24
    mapped_row = let next = d.next in omega arith

    pub mapped_first : first + count x ≤ 2 ^ 24
    mapped_first = let runs = d.runs in let sum = ap (sum_by count) e ∙ sum_by-cons count x more in omega arith

    pub mapped_on : (end : Tables) → AddsRows table (run_rows row (run_cell all first) (count x)) to end → Mapped (row + 1) (first + count x) from end xs more
    mapped_on end one =
        let long = ap (length {A = Class}) e in
        let sum = ap (sum_by count) e ∙ sum_by-cons count x more in
        let added = ap (length {A = List ℕ}) one.added ∙ length-append (rows_of to table) (run_rows row (run_cell all first) (count x)) in
        let at_most = short (count x == 0) row (run_cell all first) in
        record {
          on = λ last h. d.on last (subst (λ ys. AddsRows table (map_rows count all row first ys) to last) (sym e)
              (rows_both table (run_rows row (run_cell all first) (count x)) (map_rows count all (row + 1) (first + count x) more) to end last one h));
          few = (let few = d.few in omega arith);
          next = (let next = d.next in omega arith);
          runs = (let runs = d.runs in omega arith);
        }

  pub mapped_end : (row first : ℕ) (from to : Tables) (xs rest : List Class) → rest ≡ [] → Mapped row first from to xs rest → AddsRows table (map_rows count all 2 1 xs) from to
  mapped_end row first from to xs rest e d = d.on to (subst (λ ys. AddsRows table (map_rows count all row first ys) to to) (sym e) (rows_none table to))
