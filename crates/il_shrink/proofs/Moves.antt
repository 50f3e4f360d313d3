-- How near instructions are by one measure of their lengths and by another.
use Rattle.std.proofs.Common.{◌≡◌, ℕ, zero, suc, ◌+◌, ◌-◌, ◌≤◌, ◌⊎◌, inl, inr, min, Bool, true, nat_le, ◌&&◌, List, [], ◌∷◌, take, arith}
use Rattle.std.specs.List.{sum_by}
use Rattle.std.proofs.lemmas.Bool.Decides.{nat_tests}
use Rattle.std.proofs.lemmas.List.Sums.{sum_by-cons}

module _ {X : Type 0} (size : X → ℕ) where
  pub rises : (xs : List X) (a b : ℕ) → a ≤ b → sum_by size (take a xs) ≤ sum_by size (take b xs)
  rises xs zero b h = omega arith
  rises xs (suc a) zero h = absurd (omega arith)
  rises [] (suc a) (suc b) h = omega arith
  rises (x ∷ xs) (suc a) (suc b) h =
      let below : a ≤ b = omega arith in
      let rest : sum_by size (take a xs) ≤ sum_by size (take b xs) = rises xs a b below in
      simp sum_by-cons (omega arith)

-- each length of the second list is at most that of the first, which is 255 or more where the second's is
module _ {X Y : Type 0} (size : X → ℕ) (width : Y → ℕ) where
  abbrev pub AtMost : List X → List Y → Type 0
  AtMost [] [] = Unit {0}
  AtMost [] (y ∷ ys) = ⊥
  AtMost (x ∷ xs) [] = ⊥
  AtMost (x ∷ xs) (y ∷ ys) = (min (width y) 255 ≤ size x) × AtMost xs ys

  pub grows : (xs : List X) (ys : List Y) → AtMost xs ys → (a b : ℕ) → a ≤ b →
      min (sum_by width (take b ys) - sum_by width (take a ys)) 255 ≤ sum_by size (take b xs) - sum_by size (take a xs)
  grows [] [] h zero zero le = omega arith
  grows [] [] h zero (suc b) le = omega arith
  grows [] [] h (suc a) zero le = absurd (omega arith)
  grows [] [] h (suc a) (suc b) le = omega arith
  grows [] (y ∷ ys) h a b le = absurd h
  grows (x ∷ xs) [] h a b le = absurd h
  grows (x ∷ xs) (y ∷ ys) h zero zero le = omega arith
  grows (x ∷ xs) (y ∷ ys) h (suc a) zero le = absurd (omega arith)
  grows (x ∷ xs) (y ∷ ys) h zero (suc b) le =
      let low : 0 ≤ b = omega arith in
      let rest : min (sum_by width (take b ys) - sum_by width (take 0 ys)) 255 ≤ sum_by size (take b xs) - sum_by size (take 0 xs) = grows xs ys h.1 0 b low in
      let here : min (width y) 255 ≤ size x = h.0 in
      simp sum_by-cons (omega arith)
  grows (x ∷ xs) (y ∷ ys) h (suc a) (suc b) le =
      let low : a ≤ b = omega arith in
      let rest : min (sum_by width (take b ys) - sum_by width (take a ys)) 255 ≤ sum_by size (take b xs) - sum_by size (take a xs) = grows xs ys h.1 a b low in
      simp sum_by-cons (omega arith)

abbrev pub near : ℕ → ℕ → Bool
near from to = nat_le from (to + 0x80) && nat_le to (from + 0x7F)

near_back : (f t g u : ℕ) → t ≤ f → min (f - t) 255 ≤ g - u → near g u ≡ true → near f t ≡ true
near_back f t g u low grow is = grind (arith, nat_tests)

near_ahead : (f t g u : ℕ) → f ≤ t → min (t - f) 255 ≤ u - g → near g u ≡ true → near f t ≡ true
near_ahead f t g u low grow is = grind (arith, nat_tests)

le_or : (a b : ℕ) → (a ≤ b) ⊎ (b ≤ a)
le_or a b = grind arith

module _ {X Y : Type 0} (size : X → ℕ) (width : Y → ℕ) where
  -- what is near by the larger lengths is near by the smaller ones
  pub near_moves : (xs : List X) (ys : List Y) → AtMost size width xs ys → (from to : ℕ) →
      near (sum_by size (take from xs)) (sum_by size (take to xs)) ≡ true → near (sum_by width (take from ys)) (sum_by width (take to ys)) ≡ true
  near_moves xs ys h from to is =
      elim (le_or to from) [
        | inl le ↦ near_back _ _ (sum_by size (take from xs)) (sum_by size (take to xs)) (rises width ys to from le) (grows size width xs ys h to from le) is
        | inr le ↦ near_ahead _ _ (sum_by size (take from xs)) (sum_by size (take to xs)) (rises width ys from to le) (grows size width xs ys h from to le) is
      ]
