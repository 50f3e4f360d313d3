-- The rows of EventMap and PropertyMap: types that have items, each with the row where its items begin.
use Rattle.std.proofs.Common.{◌≡◌, ap, refl, sym, ◌∙◌, ℕ, ◌+◌, ◌==◌, Bool, true, false, cond, List, [], ◌∷◌, ◌++◌, map, length, arith}
use Rattle.std.specs.Prelude.{slice_get}
use Rattle.std.specs.List.{AllByRecursion, flat_map}
use Rattle.std.proofs.lemmas.Bool.{eqb-true}
use Rattle.std.proofs.lemmas.List.{length-append}
use Rattle.metadata_tables.specs.Indexes.{run_cell}
use Rattle.image_rows.specs.MapRows.{map_rows, run_rows}
use Rattle.image_members.specs.declared.classes.Class.{Class}
use Rattle.laws_image_parts.specs.AtRows.{Reads}
use Rattle.laws_image_parts.specs.RowsRead.{IsMade, row_itself}
use Rattle.laws_image_parts.proofs.OwnedLemmas.{get_map}
use Rattle.laws_image_parts.proofs.TypeRuns.{length_map}
use Rattle.laws_image_reading.proofs.order.ItemRising.{never}
use Rattle.laws_image_reading.proofs.order.Rising.{Rise, Climb, InGroup, group_rises, group_climbs, climbs_from}

-- the row of a type and that of its first item, if it has any
abbrev pub pair_if : ℕ → ℕ → Bool → List (ℕ × ℕ)
pair_if row first none = cond none [] ((row, first) ∷ [])

abbrev pub map_pairs : (Class → ℕ) → ℕ → ℕ → List Class → List (ℕ × ℕ)
map_pairs count row first [] = []
map_pairs count row first (c ∷ cs) = pair_if row first (count c == 0) ++ map_pairs count (row + 1) (first + count c) cs

abbrev pub type_in : ℕ × ℕ → ℕ
type_in p = p.0

abbrev pub start_in : ℕ × ℕ → ℕ
start_in p = p.1

abbrev pub pair_cells : ℕ → ℕ × ℕ → List ℕ
pair_cells all p = p.0 ∷ run_cell all p.1 ∷ []

map_both : {X Y : Type 0} (f : X → Y) (xs ys : List X) → map f (xs ++ ys) ≡ map f xs ++ map f ys
map_both f [] ys = refl
map_both f (x ∷ xs) ys = ap (λ zs. f x ∷ zs) (map_both f xs ys)

pub pairs_are : (count : Class → ℕ) (all row first : ℕ) (cs : List Class) → map_rows count all row first cs ≡ map (pair_cells all) (map_pairs count row first cs)
pairs_are count all row first [] = refl
pairs_are count all row first (c ∷ cs) =
    ap (λ rows. run_rows row (run_cell all first) (count c) ++ rows) (pairs_are count all (row + 1) (first + count c) cs)
    ∙ ap (λ rows. rows ++ map (pair_cells all) (map_pairs count (row + 1) (first + count c) cs)) (by_test (count c == 0))
    ∙ sym (map_both (pair_cells all) (pair_if row first (count c == 0)) (map_pairs count (row + 1) (first + count c) cs))
  where
    by_test : (b : Bool) → cond b [] ((row ∷ run_cell all first ∷ []) ∷ []) ≡ map (pair_cells all) (pair_if row first b)
    by_test true = refl
    by_test false = refl

-- the table has a row for each
pub reads_pairs : (table : ℕ) (cells : List ℕ → ℕ → List ℕ) (count : Class → ℕ) (all : ℕ) (cs : List Class) (image : List ℕ)
    → Reads table cells (IsMade row_itself) (map_rows count all 2 1 cs) image → Reads table cells (IsMade (pair_cells all)) (map_pairs count 2 1 cs) image
reads_pairs table cells count all cs image reads =
    let same = pairs_are count all 2 1 cs in
    let pairs = map_pairs count 2 1 cs in
    record {
      count = reads.count ∙ ap (length {A = List ℕ}) same ∙ length_map (pair_cells all) pairs;
      each = λ k p at. reads.each k (pair_cells all p) (ap (λ (rows : List (List ℕ)). slice_get rows k) same ∙ get_map (pair_cells all) pairs k p at);
    }

-- types rise, and so do the rows where their items begin
pair_typed : (row first : ℕ) (b : Bool) → AllByRecursion (λ p. type_in p ≡ row) (pair_if row first b)
pair_typed row first true = tt
pair_typed row first false = (refl, tt)

pair_started : (row first : ℕ) (b : Bool) → AllByRecursion (λ p. start_in p ≡ first) (pair_if row first b)
pair_started row first true = tt
pair_started row first false = (refl, tt)

pair_alone : (row first : ℕ) (b : Bool) → InGroup type_in never (pair_if row first b)
pair_alone row first true = tt
pair_alone row first false = tt

pub pairs_rise : (count : Class → ℕ) (row first : ℕ) (cs : List Class) → Rise type_in never row (map_pairs count row first cs)
pairs_rise count row first [] = tt
pairs_rise count row first (c ∷ cs) =
    group_rises type_in never row row (pair_if row first (count c == 0)) (map_pairs count (row + 1) (first + count c) cs) (omega arith)
    (pair_typed row first (count c == 0)) (pair_alone row first (count c == 0)) (pairs_rise count (row + 1) (first + count c) cs)

pub pairs_climb : (count : Class → ℕ) (row first : ℕ) (cs : List Class) → Climb start_in first (map_pairs count row first cs)
pairs_climb count row first [] = tt
pairs_climb count row first (c ∷ cs) =
    group_climbs start_in first first (pair_if row first (count c == 0)) (map_pairs count (row + 1) (first + count c) cs) (omega arith) (pair_started row first (count c == 0))
    (climbs_from start_in first (first + count c) (map_pairs count (row + 1) (first + count c) cs) (omega arith) (pairs_climb count (row + 1) (first + count c) cs))

-- the first begins where the first item stands, and where there is none there is no item
module _ {X : Type 0} (items : Class → List X) where
  abbrev count_in : Class → ℕ
  count_in c = length (items c)

  pub first_pair : (row first : ℕ) (cs : List Class) (p : ℕ × ℕ) (ps : List (ℕ × ℕ)) → map_pairs count_in row first cs ≡ p ∷ ps → start_in p ≡ first
  first_pair row first [] p ps e = absurd cc
  first_pair row first (c ∷ cs) p ps e = by_test (count_in c == 0) refl (first_pair (row + 1) (first + count_in c) cs p ps) e
    where
      by_test : (b : Bool) → (count_in c == 0) ≡ b → (map_pairs count_in (row + 1) (first + count_in c) cs ≡ p ∷ ps → start_in p ≡ first + count_in c)
          → pair_if row first b ++ map_pairs count_in (row + 1) (first + count_in c) cs ≡ p ∷ ps → start_in p ≡ first
      by_test true none rest f =
          let later = rest f in
          let zero_in = eqb-true (count_in c) 0 none in
          omega arith
      by_test false some rest f = let same : (row, first) ≡ p = cc in sym (ap start_in same)

  pub no_pair : (row first : ℕ) (cs : List Class) → map_pairs count_in row first cs ≡ [] → length (flat_map items cs) ≡ 0
  no_pair row first [] e = refl
  no_pair row first (c ∷ cs) e = by_test (count_in c == 0) refl (no_pair (row + 1) (first + count_in c) cs) e
    where
      by_test : (b : Bool) → (count_in c == 0) ≡ b → (map_pairs count_in (row + 1) (first + count_in c) cs ≡ [] → length (flat_map items cs) ≡ 0)
          → pair_if row first b ++ map_pairs count_in (row + 1) (first + count_in c) cs ≡ [] → length (flat_map items (c ∷ cs)) ≡ 0
      by_test true none rest f =
          let later = rest f in
          let zero_in = eqb-true (count_in c) 0 none in
          let both = length-append (items c) (flat_map items cs) in
          omega arith
      by_test false some rest f = absurd cc
