-- Rows whose cells are below 256 fit any widths.
use Rattle.std.proofs.Common.{◌≡◌, ℕ, zero, suc, ltb, true, ◌^◌, ◌<◌, List, [], ◌∷◌, length, ap, ◌∙◌, arith, ⊎_elim}
use Rattle.std.specs.Prelude.{slice_index}
use Rattle.std.specs.List.{list_all}
use Rattle.std.proofs.lemmas.Bool.{and_parts, ltb-true, cases_eq, cases_lt}
use Rattle.std.proofs.lemmas.List.{get_or_append_left, get_or_at, length_push}
use Rattle.metadata_tables.specs.Stream.{width, column_of}
use Rattle.metadata_tables.specs.Encoding.{rows_of, rows_in, cell_of, AddsRow, FitsWidths, FitsIndex}
use Rattle.metadata_tables.specs.declared.schema.Column.{Column}
use Rattle.metadata_tables.specs.declared.schema.Column.TheVariants.{Number, Strings, Guids, Blobs, Row, Run, Tagged}
use Rattle.metadata_tables.proofs.Widths.{IsCellWidth, column_kind}

pub record Small (tables : List (List (List ℕ))) : Type 0 where
  pub cells : (t r c : ℕ) → r < rows_in tables t → cell_of tables t r c < 256

pub small_none : (tables : List (List (List ℕ))) → ((t : ℕ) → rows_of tables t ≡ []) → Small tables
small_none tables none = record { cells = λ t r c h. let e = ap length (none t) in absurd (omega (arith, e, h)) }

pub small_more : (old new : List (List (List ℕ))) (table : ℕ) (cells : List ℕ) → Small old → AddsRow old new table cells → ((c : ℕ) → slice_index cells c < 256) → Small new
small_more old new table cells small adds fits = record {
  cells = λ t r c h. ⊎_elim
      (λ same. let more = ap length adds.added ∙ length_push (rows_of old table) cells in
      let there = rw same at h in
      rw (same, adds.added) (⊎_elim
      (λ before. let e = get_or_append_left (rows_of old table) (cells ∷ []) [] r before in rw e (small.cells table r c before))
      (λ after. let last : length (rows_of old table) ≡ r = omega (arith, after, more, there) in
      let e = get_or_at (rows_of old table) cells [] [] r last in rw e (fits c))
      (cases_lt r (rows_in old table))))
      (λ apart. let e = adds.others t apart in rw e (small.cells t r c (rw e at h)))
      (cases_eq t table);
}

wide : (w x : ℕ) → IsCellWidth w → x < 256 → x < 256 ^ w
wide w x kind h = ⊎_elim
    (λ one. rw one h)
    (λ more. ⊎_elim (λ two. rw two (omega (arith, h))) (λ four. rw four (omega (arith, h))) more)
    kind

fits_index : (counts : ℕ → ℕ) (heaps : ℕ) (column : Column) (value : ℕ) → value < 256 ^ width counts heaps column → FitsIndex counts heaps column value
fits_index counts heaps (Number bytes) value h = tt
fits_index counts heaps (Strings nil) value h = h
fits_index counts heaps (Guids nil) value h = h
fits_index counts heaps (Blobs nil) value h = h
fits_index counts heaps (Row t) value h = h
fits_index counts heaps (Run t) value h = h
fits_index counts heaps (Tagged kind nil) value h = h

pub fits_small : (tables : List (List (List ℕ))) (heaps : ℕ) → Small tables → FitsWidths tables heaps
fits_small tables heaps small t r c row column =
    fits_index (rows_in tables) heaps (column_of t c) (cell_of tables t r c) (wide _ _ (column_kind (rows_in tables) heaps t c column) (small.cells t r c row))

-- small numbers, by a test that computes
pub small_list : (xs : List ℕ) → list_all (λ x. ltb x 256) xs ≡ true → (k : ℕ) → slice_index xs k < 256
small_list [] all k = omega arith
small_list (x ∷ xs) all zero = ltb-true x 256 (and_parts (ltb x 256) (list_all (λ y. ltb y 256) xs) all).0
small_list (x ∷ xs) all (suc k) = small_list xs (and_parts (ltb x 256) (list_all (λ y. ltb y 256) xs) all).1 k
