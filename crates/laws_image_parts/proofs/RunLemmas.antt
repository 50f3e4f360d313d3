-- Runs: each begins where its row says, and ends where that of the next row begins or the table ends (ECMA-335 II.22).
use Rattle.std.proofs.Common.{◌≡◌, ap, refl, sym, ◌∙◌, subst, ℕ, zero, suc, ◌+◌, ◌-◌, ◌<◌, ◌==◌, true, false, cond, eqb, List, [], ◌∷◌, length, Option, Some, None, arith, ⊎_elim, inl, inr}
use Rattle.std.specs.Prelude.{slice_get, find, ◌⊎◌}
use Rattle.std.specs.List.{AllZip, range_with_len}
use Rattle.std.specs.Option.{option_map_or}
use Rattle.std.proofs.lemmas.List.{length-append}
use Rattle.std.proofs.lemmas.Bool.{eqb-true, eq-eqb, cases_Bool}
use Rattle.image_model.specs.Rows.{count_of, run, run_end}
use Rattle.laws_image_parts.specs.AtRows.{AtEach}
use Rattle.laws_image_parts.proofs.GroupLemmas.{joined}
use Rattle.laws_image_parts.proofs.RowLists.{zip_each, each_front, each_back}

-- a run whose start and end are known
run_from : (start end first long : ℕ) → start ≡ first → end ≡ first + long → range_with_len start (end - start) ≡ range_with_len first long
run_from start end first long s e =
    let size : end - start ≡ long = omega arith in
    ap (λ n. range_with_len start n) size ∙ ap (λ n. range_with_len n long) s

last_end : (image : List ℕ) (owners : ℕ) (start : ℕ → ℕ) (table row : ℕ) → row ≡ count_of image owners → run_end image owners start table row ≡ count_of image table + 1
last_end image owners start table row e =
    let yes : eqb row (count_of image owners) ≡ true = eq-eqb row (count_of image owners) e in
    ap (λ b. cond b (count_of image table + 1) (start (row + 1))) yes

next_end : (image : List ℕ) (owners : ℕ) (start : ℕ → ℕ) (table row : ℕ) → row < count_of image owners → run_end image owners start table row ≡ start (row + 1)
next_end image owners start table row low =
    let no : eqb row (count_of image owners) ≡ false =
    ⊎_elim (λ h. let e = eqb-true row (count_of image owners) h in absurd (omega arith)) (λ h. h) (cases_Bool (eqb row (count_of image owners))) in
    ap (λ b. cond b (count_of image table + 1) (start (row + 1))) no

module _ {X : Type 0} (image : List ℕ) (owners : ℕ) (start : ℕ → ℕ) (table : ℕ) where
  -- from this row on each row has one of these lists, and its run begins behind those before it
  abbrev pub AreStarts : ℕ → ℕ → List (List X) → Type 0
  AreStarts row first [] = Unit {0}
  AreStarts row first (xs ∷ more) = (start row ≡ first) × AreStarts (row + 1) (first + length xs) more

  module _ (P : ℕ → X → Type 0) where
    -- the items of a list are those of its row's run
    pub run_at : (row first k : ℕ) (lists : List (List X)) (xs : List X) → AreStarts row first lists
        → count_of image owners + 1 ≡ row + length lists → count_of image table + 1 ≡ first + length (joined lists)
        → AtEach P first (joined lists) → slice_get lists k ≡ Some xs → AllZip P (run image owners start table (row + k)) xs
    run_at row first k [] xs s owned all h at = absurd cc
    run_at row first zero (ys ∷ []) xs s owned all h at =
        let same : ys ≡ xs = cc in
        let here : row + 0 ≡ row = omega arith in
        let long = length-append ys [] in
        let last : row ≡ count_of image owners = omega arith in
        let end : run_end image owners start table row ≡ first + length ys = last_end image owners start table row last ∙ omega arith in
        let is = run_from (start row) (run_end image owners start table row) first (length ys) s.0 end in
        subst (λ zs. AllZip P (run image owners start table (row + 0)) zs) same
        (subst (λ n. AllZip P (run image owners start table n) ys) (sym here)
        (subst (λ ns. AllZip P ns ys) (sym is) (zip_each P first ys (each_front P first ys [] h))))
    run_at row first zero (ys ∷ (zs ∷ more)) xs s owned all h at =
        let same : ys ≡ xs = cc in
        let here : row + 0 ≡ row = omega arith in
        let low : row < count_of image owners = omega arith in
        let end : run_end image owners start table row ≡ first + length ys = next_end image owners start table row low ∙ s.1.0 in
        let is = run_from (start row) (run_end image owners start table row) first (length ys) s.0 end in
        subst (λ zs. AllZip P (run image owners start table (row + 0)) zs) same
        (subst (λ n. AllZip P (run image owners start table n) ys) (sym here)
        (subst (λ ns. AllZip P ns ys) (sym is) (zip_each P first ys (each_front P first ys (joined (zs ∷ more)) h))))
    run_at row first (suc k) (ys ∷ more) xs s owned all h at =
        let there : row + 1 + k ≡ row + suc k = omega arith in
        let long = length-append ys (joined more) in
        subst (λ n. AllZip P (run image owners start table n) xs) there
        (run_at (row + 1) (first + length ys) k more xs s.1 (omega arith) (omega arith) (each_back P first ys (joined more) h) at)

-- ---- runs of those rows alone that have items, found by a map (II.22.12, II.22.35)

-- how many of the lists have items
abbrev pub count_filled : {X : Type 0} → List (List X) → ℕ
count_filled [] = 0
count_filled ([] ∷ more) = count_filled more
count_filled ((x ∷ xs) ∷ more) = suc (count_filled more)

module _ (image : List ℕ) (owners : ℕ) (parent start : ℕ → ℕ) (table : ℕ) where
  -- the run that the map has for a row
  abbrev pub mapped_run : ℕ → ℕ → ℕ → List ℕ
  mapped_run entry n row = option_map_or (run image owners start table) (find (λ m. parent m == row) (range_with_len entry n)) []

  fails : (entry row v : ℕ) → parent entry ≡ row → v < row → eqb (parent entry) v ≡ false
  fails entry row v e low = ⊎_elim (λ h. let f = eqb-true (parent entry) v h in absurd (omega arith)) (λ h. h) (cases_Bool (eqb (parent entry) v))

  passes : (entry row v : ℕ) → parent entry ≡ row → row < v → eqb (parent entry) v ≡ false
  passes entry row v e low = ⊎_elim (λ h. let f = eqb-true (parent entry) v h in absurd (omega arith)) (λ h. h) (cases_Bool (eqb (parent entry) v))

  -- the first row of a range
  find_first : (entry n v : ℕ) → eqb (parent entry) v ≡ true → find (λ m. parent m == v) (range_with_len entry (suc n)) ≡ Some entry
  find_first entry n v e = ap (λ b. cond b (Some entry) (find (λ m. parent m == v) (range_with_len (entry + 1) n))) e

  find_rest : (entry n v : ℕ) → eqb (parent entry) v ≡ false → find (λ m. parent m == v) (range_with_len entry (suc n)) ≡ find (λ m. parent m == v) (range_with_len (entry + 1) n)
  find_rest entry n v e = ap (λ b. cond b (Some entry) (find (λ m. parent m == v) (range_with_len (entry + 1) n))) e

module _ {X : Type 0} (image : List ℕ) (owners : ℕ) (parent start : ℕ → ℕ) (table : ℕ) where
  -- from the row `entry` on each row is the parent's of the next list with items, and its run begins behind those before it
  abbrev pub AreMapped : ℕ → ℕ → ℕ → List (List X) → Type 0
  AreMapped entry row first [] = Unit {0}
  AreMapped entry row first ([] ∷ more) = AreMapped entry (row + 1) first more
  AreMapped entry row first ((x ∷ xs) ∷ more) = (parent entry ≡ row) × (start entry ≡ first) × AreMapped (entry + 1) (row + 1) (first + length (x ∷ xs)) more

  -- no list before these has a row among theirs
  not_mapped : (entry row first v : ℕ) (lists : List (List X)) → v < row → AreMapped entry row first lists
      → find (λ m. parent m == v) (range_with_len entry (count_filled lists)) ≡ None
  not_mapped entry row first v [] low s = refl
  not_mapped entry row first v ([] ∷ more) low s = not_mapped entry (row + 1) first v more (omega arith) s
  not_mapped entry row first v ((x ∷ xs) ∷ more) low s =
      find_rest image owners parent start table entry (count_filled more) v (fails image owners parent start table entry row v s.0 low)
      ∙ not_mapped (entry + 1) (row + 1) (first + length (x ∷ xs)) v more (omega arith) s.2

  -- where the next run begins, or the table ends
  next_run : (entry row first : ℕ) (lists : List (List X)) → AreMapped entry row first lists
      → ((count_filled lists ≡ 0) × (length (joined lists) ≡ 0)) ⊎ ((0 < count_filled lists) × (start entry ≡ first))
  next_run entry row first [] s = inl (refl, refl)
  next_run entry row first ([] ∷ more) s = next_run entry (row + 1) first more s
  next_run entry row first ((x ∷ xs) ∷ more) s = inr (omega arith, s.1)

  module _ (P : ℕ → X → Type 0) where
    here_mapped : (entry row first : ℕ) (x : X) (xs : List X) (more : List (List X)) → AreMapped entry row first ((x ∷ xs) ∷ more)
        → count_of image owners + 1 ≡ entry + count_filled ((x ∷ xs) ∷ more) → count_of image table + 1 ≡ first + length (joined ((x ∷ xs) ∷ more))
        → AtEach P first (joined ((x ∷ xs) ∷ more)) → AllZip P (run image owners start table entry) (x ∷ xs)
    here_mapped entry row first x xs more s owned all h =
        let long = length-append (x ∷ xs) (joined more) in
        let end : run_end image owners start table entry ≡ first + length (x ∷ xs) =
        ⊎_elim
        (λ e. let none = e.0 in let empty = e.1 in let last : entry ≡ count_of image owners = omega arith in last_end image owners start table entry last ∙ omega arith)
        (λ e. let some = e.0 in let low : entry < count_of image owners = omega arith in next_end image owners start table entry low ∙ e.1)
        (next_run (entry + 1) (row + 1) (first + length (x ∷ xs)) more s.2) in
        let is = run_from (start entry) (run_end image owners start table entry) first (length (x ∷ xs)) s.1 end in
        subst (λ ns. AllZip P ns (x ∷ xs)) (sym is) (zip_each P first (x ∷ xs) (each_front P first (x ∷ xs) (joined more) h))

    pub mapped_at : (entry row first k : ℕ) (lists : List (List X)) (xs : List X) → AreMapped entry row first lists
        → count_of image owners + 1 ≡ entry + count_filled lists → count_of image table + 1 ≡ first + length (joined lists)
        → AtEach P first (joined lists) → slice_get lists k ≡ Some xs → AllZip P (mapped_run image owners parent start table entry (count_filled lists) (row + k)) xs
    mapped_at entry row first k [] xs s owned all h at = absurd cc
    mapped_at entry row first zero ([] ∷ more) xs s owned all h at =
        let same : [] ≡ xs = cc in
        let none = not_mapped entry (row + 1) first (row + 0) more (omega arith) s in
        subst (λ zs. AllZip P (mapped_run image owners parent start table entry (count_filled more) (row + 0)) zs) same
        (subst (λ (o : Option ℕ). AllZip P (option_map_or (run image owners start table) o []) []) (sym none) tt)
    mapped_at entry row first zero ((x ∷ ys) ∷ more) xs s owned all h at =
        let same : x ∷ ys ≡ xs = cc in
        let here : row ≡ row + 0 = omega arith in
        let found = find_first image owners parent start table entry (count_filled more) (row + 0) (eq-eqb (parent entry) (row + 0) (s.0 ∙ here)) in
        subst (λ zs. AllZip P (mapped_run image owners parent start table entry (suc (count_filled more)) (row + 0)) zs) same
        (subst (λ (o : Option ℕ). AllZip P (option_map_or (run image owners start table) o []) (x ∷ ys)) (sym found)
        (here_mapped entry row first x ys more s owned all h))
    mapped_at entry row first (suc k) ([] ∷ more) xs s owned all h at =
        let there : row + 1 + k ≡ row + suc k = omega arith in
        subst (λ n. AllZip P (mapped_run image owners parent start table entry (count_filled more) n) xs) there
        (mapped_at entry (row + 1) first k more xs s owned all h at)
    mapped_at entry row first (suc k) ((x ∷ ys) ∷ more) xs s owned all h at =
        let there : row + 1 + k ≡ row + suc k = omega arith in
        let long = length-append (x ∷ ys) (joined more) in
        let skip = find_rest image owners parent start table entry (count_filled more) (row + suc k) (passes image owners parent start table entry row (row + suc k) s.0 (omega arith)) in
        subst (λ (o : Option ℕ). AllZip P (option_map_or (run image owners start table) o []) xs) (sym skip)
        (subst (λ n. AllZip P (mapped_run image owners parent start table (entry + 1) (count_filled more) n) xs) there
        (mapped_at (entry + 1) (row + 1) (first + length (x ∷ ys)) k more xs s.2 (omega arith) (omega arith) (each_back P first (x ∷ ys) (joined more) h) at))
