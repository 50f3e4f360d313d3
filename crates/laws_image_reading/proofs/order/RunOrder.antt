-- Runs that follow one another: their starts rise, and each row lies in one.
use Rattle.std.proofs.Common.{◌≡◌, ap, refl, subst, ℕ, zero, suc, ◌+◌, ◌-◌, ◌<◌, ◌≤◌, true, false, cond, eqb, List, [], ◌∷◌, length, Some, Contains, arith, ⊎_elim}
use Rattle.std.specs.Prelude.{slice_get, slice_index_or}
use Rattle.std.specs.List.{AllZip, range_with_len}
use Rattle.std.proofs.lemmas.Bool.{eqb-true, eq-eqb, cases_Bool, cases_lt}
use Rattle.metadata_tables.specs.Indexes.{run_cell, IndexesFit}
use Rattle.image_model.specs.Rows.{HasRow, count_of, run, run_end, run_start}
use Rattle.image_model.specs.Structure.{LiesIn}
use Rattle.laws_image_parts.specs.AtRows.{AtEach, Reads}
use Rattle.laws_image_parts.proofs.TypeRuns.{start_of}
use Rattle.laws_image_parts.proofs.names.General.{get_some}
use Rattle.laws_image_reading.proofs.order.Rising.{Climb, climb_next, climb_low}

-- ---- ranges

range_long : (first n : ℕ) → length (range_with_len first n) ≡ n
range_long first zero = refl
range_long first (suc n) = ap suc (range_long (first + 1) n)

range_at : (first n k d : ℕ) → k < n → slice_index_or (range_with_len first n) k d ≡ first + k
range_at first zero k d low = absurd (omega arith)
range_at first (suc n) zero d low = omega arith
range_at first (suc n) (suc k) d low = (let rest = range_at (first + 1) n k d (omega arith) in omega (arith, rest))

pub in_range : (first n row : ℕ) → first ≤ row → row < first + n → Contains (range_with_len first n) row
in_range first n row low high =
    let long = range_long first n in
    let at = range_at first n (row - first) row (omega arith) in
    (row - first, omega (arith, long), omega (arith, at))

pub range_has : (first n row : ℕ) → Contains (range_with_len first n) row → (first ≤ row) × (row < first + n)
range_has first n row h =
    let long = range_long first n in
    let low = h.1 in
    let is = h.2 in
    let at = range_at first n h.0 row (omega (arith, long, low)) in
    (omega (arith, at, is), omega (arith, at, is, low, long))

-- what stands beside a row of a range
pub beside_range : {X : Type 0} (P : ℕ → X → Type 0) (first n : ℕ) (xs : List X) (k : ℕ) → AllZip P (range_with_len first n) xs → k < n
    → (x : X) × (slice_get xs k ≡ Some x) × P (first + k) x
beside_range P first zero xs k h low = absurd (omega arith)
beside_range P first (suc n) [] k h low = absurd h
beside_range P first (suc n) (x ∷ xs) zero h low = let here : first ≡ first + 0 = omega arith in (x, refl, subst (λ m. P m x) here h.0)
beside_range P first (suc n) (x ∷ xs) (suc k) h low =
    let rest = beside_range P (first + 1) n xs k h.1 (omega arith) in
    let there : first + 1 + k ≡ first + suc k = omega arith in
    (rest.0, rest.1, subst (λ m. P m rest.0) there rest.2)

-- ---- starts

-- where the runs of items begin, by the cells of their rows
pub starts_read : IndexesFit → {X : Type 0} → (image : List ℕ) (owners table : ℕ) (cells : List ℕ → ℕ → List ℕ) (IsRow : List ℕ → X → Type 0) (items : List X)
    → Reads owners cells IsRow items image → (column : ℕ → ℕ) (start : X → ℕ) (n : ℕ) → count_of image table ≡ n
    → ((row : ℕ) (x : X) → IsRow (cells image row) x → column row ≡ run_cell n (start x)) → Climb start 1 items
    → AtEach (λ row x. run_start image table (column row) ≡ start x) 1 items
starts_read law image owners table cells IsRow items reads column start n count is climb k x at =
    start_of law image table (column (1 + k)) n (start x) count (is (1 + k) x (reads.each k x at)) (let low = climb_low start 1 items k x climb at in omega arith)

-- they rise
pub starts_rise : {X : Type 0} (begin : ℕ → ℕ) (start : X → ℕ) (items : List X) (low : ℕ) → Climb start low items → AtEach (λ row x. begin row ≡ start x) 1 items
    → (row : ℕ) → 1 < row → row ≤ length items → begin (row - 1) ≤ begin row
starts_rise begin start items low climb at row behind high =
    let one = get_some items (row - 1 - 1) (omega arith) in
    let two = get_some items (row - 1) (omega arith) in
    let next : row - 1 ≡ suc (row - 1 - 1) = omega arith in
    let up = climb_next start low items (row - 1 - 1) one.0 two.0 climb one.1 (subst (λ k. slice_get items k ≡ Some two.0) next two.1) in
    let here : 1 + (row - 1 - 1) ≡ row - 1 = omega arith in
    let there : 1 + (row - 1) ≡ row = omega arith in
    let a : begin (row - 1) ≡ start one.0 = subst (λ n. begin n ≡ start one.0) here (at (row - 1 - 1) one.0 one.1) in
    let b : begin row ≡ start two.0 = subst (λ n. begin n ≡ start two.0) there (at (row - 1) two.0 two.1) in
    omega arith

-- ---- each row lies in a run

module _ (image : List ℕ) (owners table : ℕ) (begin : ℕ → ℕ) where
  last_end : (t : ℕ) → t ≡ count_of image owners → run_end image owners begin table t ≡ count_of image table + 1
  last_end t e = (let same : eqb t (count_of image owners) ≡ true = eq-eqb t (count_of image owners) e in ap (λ b. cond b (count_of image table + 1) (begin (t + 1))) same)

  next_end : (t : ℕ) → t < count_of image owners → run_end image owners begin table t ≡ begin (t + 1)
  next_end t low =
      let other : eqb t (count_of image owners) ≡ false = ⊎_elim (λ h. let e = eqb-true t (count_of image owners) h in absurd (omega arith)) (λ h. h) (cases_Bool (eqb t (count_of image owners))) in
      ap (λ b. cond b (count_of image table + 1) (begin (t + 1))) other

  within : (t row : ℕ) → begin t ≤ row → row < run_end image owners begin table t → Contains (run image owners begin table t) row
  within t row low high = in_range (begin t) (run_end image owners begin table t - begin t) row low (omega arith)

  find_owner : (n t row : ℕ) → 0 < t → t + n ≡ count_of image owners → begin t ≤ row → row ≤ count_of image table → LiesIn image owners (run image owners begin table) row
  find_owner zero t row some all low high =
      let end = last_end t (omega arith) in
      (t, (some, omega arith), within t row low (omega arith))
  find_owner (suc n) t row some all low high = ⊎_elim
      (λ less. let end = next_end t (omega arith) in (t, (some, omega arith), within t row low (omega arith)))
      (λ from. find_owner n (t + 1) row (omega arith) (omega arith) from high)
      (cases_lt row (begin (t + 1)))

  pub lies_in : (row : ℕ) → HasRow image table row → 0 < count_of image owners → begin 1 ≡ 1 → LiesIn image owners (run image owners begin table) row
  lies_in row there some first =
      let pos = there.0 in
      find_owner (count_of image owners - 1) 1 row (omega arith) (omega arith) (omega arith) there.1
