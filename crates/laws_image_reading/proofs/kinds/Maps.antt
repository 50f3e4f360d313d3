-- The events and the properties of types follow one another, type by type.
use Rattle.std.proofs.Common.{◌≡◌, ap, refl, sym, ◌∙◌, subst, ℕ, zero, suc, ◌+◌, ◌<◌, ◌==◌, false, cond, eqb, List, [], ◌∷◌, ◌++◌, length, Some, arith}
use Rattle.std.specs.Prelude.{slice_get, slice_index, find}
use Rattle.std.specs.Option.{option_map_or}
use Rattle.std.specs.List.{AllZip, flat_map, range_with_len}
use Rattle.std.proofs.lemmas.Bool.{eqb-true, false_from_ne_true}
use Rattle.std.proofs.lemmas.List.{length-append}
use Rattle.metadata_tables.specs.Indexes.{run_cell, IndexesFit}
use Rattle.image_rows.specs.MapRows.{map_rows, run_rows}
use Rattle.image_members.specs.declared.classes.Class.{Class}
use Rattle.image_model.specs.Rows.{count_of, run, run_start}
use Rattle.laws_image_parts.specs.AtRows.{AtEach, Reads}
use Rattle.laws_image_parts.specs.RowsRead.{IsMade, row_itself}
use Rattle.laws_image_parts.proofs.GroupLemmas.{joined}
use Rattle.laws_image_parts.proofs.RunLemmas.{AreMapped, count_filled, mapped_at}
use Rattle.laws_image_parts.proofs.TypeRuns.{start_of}
use Rattle.laws_image_parts.proofs.names.General.{each_both}
use Rattle.laws_image_reading.proofs.kinds.General.{before, range_at, range_long, zip_same}

no_rows : (row cell count : ℕ) → 0 ≡ count → run_rows row cell count ≡ []
no_rows row cell count e = ap (run_rows row cell) (sym e)

a_row : (row cell n count : ℕ) → suc n ≡ count → run_rows row cell count ≡ (row ∷ cell ∷ []) ∷ []
a_row row cell n count e =
    let some : eqb (suc n) 0 ≡ false = false_from_ne_true (eqb (suc n) 0) (λ h. let f = eqb-true (suc n) 0 h in omega arith) in
    ap (run_rows row cell) (sym e) ∙ ap (λ b. cond b [] ((row ∷ cell ∷ []) ∷ [])) some

module _ {Y : Type 0} (members : Class → List Y) where
  abbrev count_in : Class → ℕ
  count_in c = length (members c)

  -- the places of the members of each type among all, counted from a row on
  abbrev places : ℕ → List Class → List (List ℕ)
  places first [] = []
  places first (c ∷ cs) = range_with_len first (length (members c)) ∷ places (first + length (members c)) cs

  places_each : (first : ℕ) (cs : List Class) → AtEach (λ row n. row ≡ n) first (joined (places first cs))
  places_each first [] = λ k x at. absurd cc
  places_each first (c ∷ cs) =
      let own = range_with_len first (length (members c)) in
      let later : first + length (members c) ≡ first + length own = ap (λ n. first + n) (sym (range_long first (length (members c)))) in
      each_both (λ row n. row ≡ n) first own (joined (places (first + length (members c)) cs)) (λ k n at. range_at first (length (members c)) k n at)
      (subst (λ n. AtEach (λ row m. row ≡ m) n (joined (places (first + length (members c)) cs))) later (places_each (first + length (members c)) cs))

  places_long : (first : ℕ) (cs : List Class) → length (joined (places first cs)) ≡ length (flat_map members cs)
  places_long first [] = refl
  places_long first (c ∷ cs) =
      let own = range_with_len first (length (members c)) in
      let one = length-append own (joined (places (first + length (members c)) cs)) in
      let two = length-append (members c) (flat_map members cs) in
      let three = range_long first (length (members c)) in
      let rest = places_long (first + length (members c)) cs in
      omega arith

  places_at : (first : ℕ) (cs : List Class) (k : ℕ) (c : Class) → slice_get cs k ≡ Some c
      → slice_get (places first cs) k ≡ Some (range_with_len (first + before members cs k) (length (members c)))
  places_at first [] k c at = absurd cc
  places_at first (d ∷ cs) zero c at =
      let same : d ≡ c = cc in
      let here : first ≡ first + 0 = omega arith in
      ap (λ (x : Class). Some (range_with_len first (length (members x)))) same ∙ ap (λ n. Some (range_with_len n (length (members c)))) here
  places_at first (d ∷ cs) (suc k) c at =
      let there : first + length (members d) + before members cs k ≡ first + (length (members d) + before members cs k) = omega arith in
      places_at (first + length (members d)) cs k c at ∙ ap (λ n. Some (range_with_len n (length (members c)))) there

  module _ (image : List ℕ) (owners : ℕ) (parent start : ℕ → ℕ) (table all : ℕ) where
    -- the rows that a map has for types
    abbrev pub Tells : ℕ → List (List ℕ) → Type 0
    Tells entry rows = (k : ℕ) (row cell : ℕ) → slice_get rows k ≡ Some (row ∷ cell ∷ []) → (parent (entry + k) ≡ row) × ((first : ℕ) → 0 < first → cell ≡ run_cell all first → start (entry + k) ≡ first)

    filled_count : (row first : ℕ) (cs : List Class) → count_filled (places first cs) ≡ length (map_rows count_in all row first cs)
    filled_count row first [] = refl
    filled_count row first (c ∷ cs) =
        by_items (range_with_len first (length (members c))) (range_long first (length (members c))) (filled_count (row + 1) (first + length (members c)) cs)
      where
        lists : List (List ℕ)
        lists = places (first + length (members c)) cs

        rest : List (List ℕ)
        rest = map_rows count_in all (row + 1) (first + length (members c)) cs

        by_items : (xs : List ℕ) → length xs ≡ length (members c) → count_filled lists ≡ length rest
            → count_filled (xs ∷ lists) ≡ length (run_rows row (run_cell all first) (length (members c)) ++ rest)
        by_items [] e more = more ∙ ap (λ (rows : List (List ℕ)). length (rows ++ rest)) (sym (no_rows row (run_cell all first) (length (members c)) e))
        by_items (x ∷ xs) e more = ap suc more ∙ ap (λ (rows : List (List ℕ)). length (rows ++ rest)) (sym (a_row row (run_cell all first) (length xs) (length (members c)) e))

    are_mapped : (entry row first : ℕ) (cs : List Class) → 0 < first → Tells entry (map_rows count_in all row first cs) → AreMapped image owners parent start table entry row first (places first cs)
    are_mapped entry row first [] some h = tt
    are_mapped entry row first (c ∷ cs) some h =
        by_items (range_with_len first (length (members c))) (range_long first (length (members c))) (λ e low g. are_mapped e (row + 1) (first + length (members c)) cs low g)
      where
        lists : List (List ℕ)
        lists = places (first + length (members c)) cs

        rest : List (List ℕ)
        rest = map_rows count_in all (row + 1) (first + length (members c)) cs

        by_items : (xs : List ℕ) → length xs ≡ length (members c)
            → ((e : ℕ) → 0 < first + length (members c) → Tells e rest → AreMapped image owners parent start table e (row + 1) (first + length (members c)) lists)
            → AreMapped image owners parent start table entry row first (xs ∷ lists)
        by_items [] e more =
            let none : first + length (members c) ≡ first = omega arith in
            let g : Tells entry rest = subst (λ (rows : List (List ℕ)). Tells entry (rows ++ rest)) (no_rows row (run_cell all first) (length (members c)) e) h in
            subst (λ n. AreMapped image owners parent start table entry (row + 1) n lists) none (more entry (omega arith) g)
        by_items (x ∷ xs) e more =
            let g : Tells entry ((row ∷ run_cell all first ∷ []) ∷ rest) =
            subst (λ (rows : List (List ℕ)). Tells entry (rows ++ rest)) (a_row row (run_cell all first) (length xs) (length (members c)) e) h in
            let here : entry ≡ entry + 0 = omega arith in
            let one = g 0 row (run_cell all first) refl in
            let next : first + length (members c) ≡ first + length (x ∷ xs) = ap (λ n. first + n) (sym e) in
            let others : Tells (entry + 1) rest =
            (λ k r cell at. let there : entry + 1 + k ≡ entry + suc k = omega arith in
            let is = g (suc k) r cell at in
            (ap parent there ∙ is.0, λ f low s. ap start there ∙ is.1 f low s)) in (
              ap parent here ∙ one.0,
              ap start here ∙ one.1 first some refl,
              subst (λ n. AreMapped image owners parent start table (entry + 1) (row + 1) n lists) next (more (entry + 1) (omega arith) others),
            )

  module _ (law : IndexesFit) (image : List ℕ) (owners : ℕ) (cells : List ℕ → ℕ → List ℕ) (parent start : ℕ → ℕ) (cell : ℕ → ℕ) (table : ℕ) (classes : List Class)
      (reads : Reads owners cells (IsMade row_itself) (map_rows (λ c. length (members c)) (length (flat_map members classes)) 2 1 classes) image)
      (count : count_of image table ≡ length (flat_map members classes))
      (parent_is : (k : ℕ) → slice_index (cells image (1 + k)) 0 ≡ parent (1 + k)) (cell_is : (k : ℕ) → slice_index (cells image (1 + k)) 1 ≡ cell (1 + k))
      (start_is : (k : ℕ) → start k ≡ run_start image table (cell k)) where
    abbrev all_of : ℕ
    all_of = length (flat_map members classes)

    -- the run that the map has for a type
    abbrev pub run_of : ℕ → List ℕ
    run_of type = option_map_or (run image owners start table) (find (λ m. parent m == type) (range_with_len 1 (count_of image owners))) []

    told : Tells image owners parent start table all_of 1 (map_rows count_in all_of 2 1 classes)
    told j row at_cell found =
        let is : cells image (1 + j) ≡ row ∷ at_cell ∷ [] = reads.each j (row ∷ at_cell ∷ []) found in (
          sym (parent_is j) ∙ ap (λ (cs : List ℕ). slice_index cs 0) is,
          λ begin some same. start_is (1 + j)
              ∙ start_of law image table (cell (1 + j)) all_of begin count (sym (cell_is j) ∙ ap (λ (cs : List ℕ). slice_index cs 1) is ∙ same) some,
        )

    -- `<Module>` has none in front of those of all types
    abbrev lists : List (List ℕ)
    lists = [] ∷ places 1 classes

    run_at : (k : ℕ) (xs : List ℕ) → slice_get lists k ≡ Some xs → run_of (1 + k) ≡ xs
    run_at k xs at =
        let filled = filled_count image owners parent start table all_of 2 1 classes in
        let owned = reads.count in
        let long = places_long 1 classes in
        let mapped : AreMapped image owners parent start table 1 1 1 lists = are_mapped image owners parent start table all_of 1 2 1 classes (omega arith) told in
        let same : count_filled lists ≡ count_of image owners = filled ∙ sym owned in
        let found = mapped_at image owners parent start table (λ row n. row ≡ n) 1 1 1 k lists xs mapped (omega arith) (omega arith) (places_each 1 classes) at in
        zip_same (run_of (1 + k)) xs
        (subst (λ j. AllZip (λ x y. x ≡ y) (option_map_or (run image owners start table) (find (λ m. parent m == 1 + k) (range_with_len 1 j)) []) xs) same found)

    pub module_run : run_of 1 ≡ []
    module_run = run_at 0 [] refl

    pub class_run : (k : ℕ) (c : Class) → slice_get classes k ≡ Some c → run_of (2 + k) ≡ range_with_len (1 + before members classes k) (length (members c))
    class_run k c at =
        let here : 1 + suc k ≡ 2 + k = omega arith in
        ap run_of (sym here) ∙ run_at (suc k) (range_with_len (1 + before members classes k) (length (members c))) (places_at 1 classes k c at)
