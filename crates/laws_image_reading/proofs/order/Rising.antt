-- Items that rise by a number, and where that is the same by something else.
use Rattle.std.proofs.Common.{◌≡◌, sym, ◌∙◌, subst, ℕ, zero, suc, ◌+◌, ◌-◌, ◌<◌, ◌≤◌, ◌≢◌, List, [], ◌∷◌, ◌++◌, Some, inl, inr, arith, ⊎_elim}
use Rattle.std.specs.Prelude.{slice_get, ◌⊎◌}
use Rattle.std.specs.List.{AllByRecursion, flat_map, enumerate_from}
use Rattle.std.proofs.lemmas.Bool.{cases_lt}

module _ {X : Type 0} (key : X → ℕ) (Q : X → X → Type 0) where
  -- an item has the lower number, or the same and stands before the other by what else orders them
  abbrev pub IsBefore : X → X → Type 0
  IsBefore x y = (key x < key y) ⊎ ((key x ≡ key y) × Q x y)

  -- each is before the next
  abbrev pub AreChained : X → List X → Type 0
  AreChained x [] = Unit {0}
  AreChained x (y ∷ ys) = IsBefore x y × AreChained y ys

  -- the same, and the first number is this or higher
  abbrev pub Rise : ℕ → List X → Type 0
  Rise low [] = Unit {0}
  Rise low (x ∷ xs) = (low ≤ key x) × AreChained x xs

  -- each is before the next by what else orders them
  abbrev pub AreLinked : X → List X → Type 0
  AreLinked x [] = Unit {0}
  AreLinked x (y ∷ ys) = Q x y × AreLinked y ys

  abbrev pub InGroup : List X → Type 0
  InGroup [] = Unit {0}
  InGroup (x ∷ xs) = AreLinked x xs

  pub lower : (low mid : ℕ) (xs : List X) → low ≤ mid → Rise mid xs → Rise low xs
  lower low mid [] le h = tt
  lower low mid (x ∷ xs) le h = let first = h.0 in (omega arith, h.1)

  -- items of one number, and then those of higher ones
  behind : (v : ℕ) (x : X) (g ps : List X) → key x ≡ v → AllByRecursion (λ y. key y ≡ v) g → AreLinked x g → Rise (v + 1) ps → AreChained x (g ++ ps)
  behind v x [] [] e k q r = tt
  behind v x [] (p ∷ ps) e k q r = let first = r.0 in (inl (omega arith), r.1)
  behind v x (y ∷ g) ps e k q r = (inr (e ∙ sym k.0, q.0), behind v y g ps k.0 k.1 q.1 r)

  pub group_rises : (low v : ℕ) (g ps : List X) → low ≤ v → AllByRecursion (λ y. key y ≡ v) g → InGroup g → Rise (v + 1) ps → Rise low (g ++ ps)
  group_rises low v [] ps le k q r = lower low (v + 1) ps (omega arith) r
  group_rises low v (x ∷ g) ps le k q r = let here = k.0 in (omega arith, behind v x g ps k.0 k.1 q r)

  -- an item and the next
  next_to : (z x y : X) (xs : List X) (k : ℕ) → AreChained z xs → slice_get (z ∷ xs) k ≡ Some x → slice_get xs k ≡ Some y → IsBefore x y
  next_to z x y [] k h a b = absurd cc
  next_to z x y (w ∷ xs) zero h a b =
      let one : z ≡ x = cc in
      let two : w ≡ y = cc in
      subst (λ p. IsBefore p y) one (subst (λ p. IsBefore z p) two h.0)
  next_to z x y (w ∷ xs) (suc k) h a b = next_to w x y xs k h.1 a b

  pub adjacent : (low : ℕ) (xs : List X) (k : ℕ) (x y : X) → Rise low xs → slice_get xs k ≡ Some x → slice_get xs (suc k) ≡ Some y → IsBefore x y
  adjacent low [] k x y h a b = absurd cc
  adjacent low (z ∷ xs) k x y h a b = next_to z x y xs k h.1 a b

  -- each number is no lower than the first may be
  chain_low : (low : ℕ) (z x : X) (xs : List X) (k : ℕ) → low ≤ key z → AreChained z xs → slice_get xs k ≡ Some x → low ≤ key x
  chain_low low z x [] k le h at = absurd cc
  chain_low low z x (w ∷ xs) zero le h at =
      let same : w ≡ x = cc in
      let up : low ≤ key w = elim h.0 [ inl less ↦ omega arith | inr e ↦ let equal = e.0 in omega arith ] in
      subst (λ p. low ≤ key p) same up
  chain_low low z x (w ∷ xs) (suc k) le h at =
      let up : low ≤ key w = elim h.0 [ inl less ↦ omega arith | inr e ↦ let equal = e.0 in omega arith ] in
      chain_low low w x xs k up h.1 at

  pub rise_low : (low : ℕ) (xs : List X) (k : ℕ) (x : X) → Rise low xs → slice_get xs k ≡ Some x → low ≤ key x
  rise_low low [] k x h at = absurd cc
  rise_low low (z ∷ xs) zero x h at = let same : z ≡ x = cc in subst (λ p. low ≤ key p) same h.0
  rise_low low (z ∷ xs) (suc k) x h at = chain_low low z x xs k h.0 h.1 at

  -- where nothing else orders them
  module _ (always : (x y : X) → Q x y) where
    pub not_after : (x y : X) → key x ≤ key y → IsBefore x y
    not_after x y le = ⊎_elim (λ low. inl low) (λ high. inr (omega arith, always x y)) (cases_lt (key x) (key y))

    chained : (x : X) (ps : List X) → Rise (key x) ps → AreChained x ps
    chained x [] r = tt
    chained x (p ∷ ps) r = (not_after x p r.0, r.1)

    pub linked : (x : X) (xs : List X) → AreLinked x xs
    linked x [] = tt
    linked x (y ∷ ys) = (always x y, linked y ys)

    pub in_group : (xs : List X) → InGroup xs
    in_group [] = tt
    in_group (x ∷ xs) = linked x xs

    -- the next numbers may be the same
    pub same_rises : (low v : ℕ) (g ps : List X) → low ≤ v → AllByRecursion (λ y. key y ≡ v) g → Rise v ps → Rise low (g ++ ps)
    same_rises low v [] ps le k r = lower low v ps le r
    same_rises low v (x ∷ g) ps le k r =
        let here = k.0 in
        (omega arith, chained x (g ++ ps) (same_rises (key x) v g ps (omega arith) k.1 r))

  -- ---- a group for each item of a list, whose numbers follow one another

  module _ {Y : Type 0} (make : ℕ × Y → List X) (each : (row : ℕ) (y : Y) → AllByRecursion (λ x. key x ≡ row) (make (row, y)))
      (own : (row : ℕ) (y : Y) → InGroup (make (row, y))) where
    pub made_rise : (first : ℕ) (ys : List Y) → Rise first (flat_map make (enumerate_from first ys))
    made_rise first [] = tt
    made_rise first (y ∷ ys) = group_rises first first (make (first, y)) (flat_map make (enumerate_from (first + 1) ys)) (omega arith) (each first y) (own first y) (made_rise (first + 1) ys)

-- ---- numbers that rise or stay

module _ {X : Type 0} (key : X → ℕ) where
  abbrev pub Climb : ℕ → List X → Type 0
  Climb low [] = Unit {0}
  Climb low (x ∷ xs) = (low ≤ key x) × Climb (key x) xs

  pub climbs_from : (low mid : ℕ) (xs : List X) → low ≤ mid → Climb mid xs → Climb low xs
  climbs_from low mid [] le h = tt
  climbs_from low mid (x ∷ xs) le h = let first = h.0 in (omega arith, h.1)

  pub group_climbs : (low v : ℕ) (g ps : List X) → low ≤ v → AllByRecursion (λ y. key y ≡ v) g → Climb v ps → Climb low (g ++ ps)
  group_climbs low v [] ps le k c = climbs_from low v ps le c
  group_climbs low v (x ∷ g) ps le k c = let here = k.0 in (omega arith, group_climbs (key x) v g ps (omega arith) k.1 c)

  module _ (Q : X → X → Type 0) (always : (x y : X) → Q x y) where
    pub climbs_rise : (low : ℕ) (xs : List X) → Climb low xs → Rise key Q low xs
    climbs_rise low [] h = tt
    climbs_rise low (x ∷ xs) h = (h.0, chained key Q always x xs (climbs_rise (key x) xs h.1))

  -- an item and the next
  pub climb_next : (low : ℕ) (xs : List X) (k : ℕ) (x y : X) → Climb low xs → slice_get xs k ≡ Some x → slice_get xs (suc k) ≡ Some y → key x ≤ key y
  climb_next low [] k x y h a b = absurd cc
  climb_next low (z ∷ []) k x y h a b = absurd cc
  climb_next low (z ∷ (w ∷ xs)) zero x y h a b =
      let one : z ≡ x = cc in
      let two : w ≡ y = cc in
      subst (λ p. key p ≤ key y) one (subst (λ p. key z ≤ key p) two h.1.0)
  climb_next low (z ∷ (w ∷ xs)) (suc k) x y h a b = climb_next (key z) (w ∷ xs) k x y h.1 a b

  -- each number is no lower than the first may be
  pub climb_low : (low : ℕ) (xs : List X) (k : ℕ) (x : X) → Climb low xs → slice_get xs k ≡ Some x → low ≤ key x
  climb_low low [] k x h at = absurd cc
  climb_low low (z ∷ xs) zero x h at = let same : z ≡ x = cc in subst (λ p. low ≤ key p) same h.0
  climb_low low (z ∷ xs) (suc k) x h at = let first = h.0 in let rest = climb_low (key z) xs k x h.1 at in omega arith

-- ---- a column whose numbers rise from row to row

pub rises_far : (f : ℕ → ℕ) (count : ℕ) → ((row : ℕ) → 1 < row → row ≤ count → f (row - 1) < f row) → (d j : ℕ) → 0 < j → j + suc d ≤ count → f j < f (j + suc d)
rises_far f count step zero j some high =
    let back : j + 1 - 1 ≡ j = omega arith in
    let next : f (j + 1 - 1) < f (j + 1) = step (j + 1) (omega arith) high in
    subst (λ n. f n < f (j + 1)) back next
rises_far f count step (suc d) j some high =
    let there : j + suc (suc d) - 1 ≡ j + suc d = omega arith in
    let rest : f j < f (j + suc d) = rises_far f count step d j some (omega arith) in
    let next : f (j + suc (suc d) - 1) < f (j + suc (suc d)) = step (j + suc (suc d)) (omega arith) high in
    let last : f (j + suc d) < f (j + suc (suc d)) = subst (λ n. f n < f (j + suc (suc d))) there next in
    omega arith

-- so no earlier row has the number of a row
pub first_with : (f : ℕ → ℕ) (count : ℕ) → ((row : ℕ) → 1 < row → row ≤ count → f (row - 1) < f row) → (row earlier : ℕ) → row ≤ count → 0 < earlier → earlier < row → f earlier ≢ f row
first_with f count step row earlier high some less e =
    let far : earlier + suc (row - earlier - 1) ≡ row = omega arith in
    let up : f earlier < f (earlier + suc (row - earlier - 1)) = rises_far f count step (row - earlier - 1) earlier some (omega arith) in
    let over : f earlier < f row = subst (λ n. f earlier < f n) far up in
    omega arith
