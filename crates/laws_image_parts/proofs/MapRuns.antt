-- The runs of events and properties, found by the rows of EventMap and PropertyMap.
use Rattle.std.proofs.Common.{◌≡◌, ap, refl, sym, ◌∙◌, subst, ℕ, zero, suc, ◌+◌, ◌<◌, ◌==◌, false, cond, eqb, List, [], ◌∷◌, ◌++◌, length, Some, arith}
use Rattle.std.specs.Prelude.{slice_get, find}
use Rattle.std.specs.Option.{option_map_or}
use Rattle.std.specs.List.{AllZip, range_with_len}
use Rattle.std.proofs.lemmas.Bool.{eqb-true, false_from_ne_true}
use Rattle.metadata_tables.specs.Indexes.{run_cell}
use Rattle.image_members.specs.DeclaredMembers.{class_methods}
use Rattle.image_rows.specs.MapRows.{map_rows, run_rows}
use Rattle.image_members.specs.declared.classes.Class.{Class}
use Rattle.image_model.specs.Rows.{count_of, run}
use Rattle.laws_image_parts.specs.AtRows.{AtEach}
use Rattle.laws_image_parts.proofs.GroupLemmas.{joined}
use Rattle.laws_image_parts.proofs.RunLemmas.{AreMapped, count_filled, mapped_at}

-- lists of the items of types, each made with the row of the type's first method
abbrev pub lists_from : {X : Type 0} → (ℕ → Class → List X) → ℕ → List Class → List (List X)
lists_from make first [] = []
lists_from make first (c ∷ cs) = make first c ∷ lists_from make (first + length (class_methods c)) cs

-- the row of the first method of a type
abbrev pub method_from : ℕ → List Class → ℕ → ℕ
method_from first [] k = first
method_from first (c ∷ cs) zero = first
method_from first (c ∷ cs) (suc k) = method_from (first + length (class_methods c)) cs k

pub lists_get : {X : Type 0} (make : ℕ → Class → List X) (first : ℕ) (cs : List Class) (k : ℕ) (c : Class) → slice_get cs k ≡ Some c
    → slice_get (lists_from make first cs) k ≡ Some (make (method_from first cs k) c)
lists_get make first [] k c at = absurd cc
lists_get make first (d ∷ cs) zero c at = let same : d ≡ c = cc in ap (λ (x : Class). Some (make first x)) same
lists_get make first (d ∷ cs) (suc k) c at = lists_get make (first + length (class_methods d)) cs k c at

no_rows : (row cell count : ℕ) → 0 ≡ count → run_rows row cell count ≡ []
no_rows row cell count e = ap (run_rows row cell) (sym e)

a_row : (row cell n count : ℕ) → suc n ≡ count → run_rows row cell count ≡ (row ∷ cell ∷ []) ∷ []
a_row row cell n count e =
    let some : eqb (suc n) 0 ≡ false = false_from_ne_true (eqb (suc n) 0) (λ h. let f = eqb-true (suc n) 0 h in omega arith) in
    ap (run_rows row cell) (sym e) ∙ ap (λ b. cond b [] ((row ∷ cell ∷ []) ∷ [])) some

module _ {X : Type 0} (image : List ℕ) (owners : ℕ) (parent start : ℕ → ℕ) (table : ℕ) (make : ℕ → Class → List X) (count : Class → ℕ) (all : ℕ)
    (same : (first : ℕ) (c : Class) → length (make first c) ≡ count c) where
  -- the rows that a map has for types
  abbrev pub Tells : ℕ → List (List ℕ) → Type 0
  Tells entry rows = (k : ℕ) (row cell : ℕ) → slice_get rows k ≡ Some (row ∷ cell ∷ []) → (parent (entry + k) ≡ row) × ((first : ℕ) → 0 < first → cell ≡ run_cell all first → start (entry + k) ≡ first)

  filled_count : (row first method : ℕ) (cs : List Class) → count_filled (lists_from make method cs) ≡ length (map_rows count all row first cs)
  filled_count row first method [] = refl
  filled_count row first method (c ∷ cs) = by_items (make method c) (same method c) (filled_count (row + 1) (first + count c) (method + length (class_methods c)) cs)
    where
      lists : List (List X)
      lists = lists_from make (method + length (class_methods c)) cs

      rest : List (List ℕ)
      rest = map_rows count all (row + 1) (first + count c) cs

      by_items : (xs : List X) → length xs ≡ count c → count_filled lists ≡ length rest → count_filled (xs ∷ lists) ≡ length (run_rows row (run_cell all first) (count c) ++ rest)
      by_items [] e more = more ∙ ap (λ (rows : List (List ℕ)). length (rows ++ rest)) (sym (no_rows row (run_cell all first) (count c) e))
      by_items (x ∷ xs) e more = ap suc more ∙ ap (λ (rows : List (List ℕ)). length (rows ++ rest)) (sym (a_row row (run_cell all first) (length xs) (count c) e))

  are_mapped : (entry row first method : ℕ) (cs : List Class) → 0 < first → Tells entry (map_rows count all row first cs)
      → AreMapped image owners parent start table entry row first (lists_from make method cs)
  are_mapped entry row first method [] some h = tt
  are_mapped entry row first method (c ∷ cs) some h =
      by_items (make method c) (same method c) (λ e low g. are_mapped e (row + 1) (first + count c) (method + length (class_methods c)) cs low g)
    where
      lists : List (List X)
      lists = lists_from make (method + length (class_methods c)) cs

      rest : List (List ℕ)
      rest = map_rows count all (row + 1) (first + count c) cs

      by_items : (xs : List X) → length xs ≡ count c
          → ((e : ℕ) → 0 < first + count c → Tells e rest → AreMapped image owners parent start table e (row + 1) (first + count c) lists)
          → AreMapped image owners parent start table entry row first (xs ∷ lists)
      by_items [] e more =
          let none : first + count c ≡ first = omega arith in
          let g : Tells entry rest = subst (λ (rows : List (List ℕ)). Tells entry (rows ++ rest)) (no_rows row (run_cell all first) (count c) e) h in
          subst (λ n. AreMapped image owners parent start table entry (row + 1) n lists) none (more entry (omega arith) g)
      by_items (x ∷ xs) e more =
          let g : Tells entry ((row ∷ run_cell all first ∷ []) ∷ rest) =
          subst (λ (rows : List (List ℕ)). Tells entry (rows ++ rest)) (a_row row (run_cell all first) (length xs) (count c) e) h in
          let here : entry ≡ entry + 0 = omega arith in
          let one = g 0 row (run_cell all first) refl in
          let next : first + count c ≡ first + length (x ∷ xs) = ap (λ n. first + n) (sym e) in
          let others : Tells (entry + 1) rest =
          (λ k r cell at. let there : entry + 1 + k ≡ entry + suc k = omega arith in
          let is = g (suc k) r cell at in
          (ap parent there ∙ is.0, λ f low s. ap start there ∙ is.1 f low s)) in (
            ap parent here ∙ one.0,
            ap start here ∙ one.1 first some refl,
            subst (λ n. AreMapped image owners parent start table (entry + 1) (row + 1) n lists) next (more (entry + 1) (omega arith) others),
          )

  module _ (P : ℕ → X → Type 0) (method : ℕ) (cs : List Class) where
    -- the items of a type are those of the run that the map has for it
    pub map_run : Tells 1 (map_rows count all 2 1 cs) → count_of image owners ≡ length (map_rows count all 2 1 cs)
        → count_of image table ≡ length (joined (lists_from make method cs)) → AtEach P 1 (joined (lists_from make method cs))
        → (k : ℕ) (c : Class) → slice_get cs k ≡ Some c
        → AllZip P (option_map_or (run image owners start table) (find (λ m. parent m == 2 + k) (range_with_len 1 (count_of image owners))) []) (make (method_from method cs k) c)
    map_run tells owned items h k c at =
        let lists = lists_from make method cs in
        let filled = filled_count 2 1 method cs in
        let mapped = are_mapped 1 2 1 method cs (omega arith) tells in
        let found = mapped_at image owners parent start table P 1 2 1 k lists (make (method_from method cs k) c) mapped (omega arith) (omega arith) h (lists_get make method cs k c at) in
        let same_count : count_filled lists ≡ count_of image owners = filled ∙ sym owned in
        subst (λ j. AllZip P (option_map_or (run image owners start table) (find (λ m. parent m == 2 + k) (range_with_len 1 j)) []) (make (method_from method cs k) c)) same_count found
