-- The first place in two lists one after the other at which a test passes.
use Rattle.std.proofs.Common.{◌≡◌, ℕ, suc, ◌+◌, ◌<◌, ◌≤◌, inl, inr, List, [], ◌∷◌, ◌++◌, Some, None, length, cond, sym, ◌∙◌, ap, refl, arith, length-append}
use Rattle.std.specs.Prelude.{Bool, true, false, not, nat_lt, position}
use Rattle.std.specs.List.{position_or_len}
use Rattle.std.proofs.lemmas.Bool.{cases_Bool, leb-false, lt-ltb, ltb-true}
use Rattle.std.proofs.lemmas.Option.{same_Some}

module _ {X : Type 0} (p : X → Bool) where
  found_place : (xs : List X) (k : ℕ) → position p xs ≡ Some k → (position_or_len p xs ≡ k) × (k < length xs)
  found_place xs k e = go (nat_lt (position_or_len p xs) (length xs)) refl e
    where
      go : (b : Bool) → nat_lt (position_or_len p xs) (length xs) ≡ b → cond b (Some (position_or_len p xs)) None ≡ Some k →
          (position_or_len p xs ≡ k) × (k < length xs)
      go true h f =
          let same = same_Some (position_or_len p xs) k f in
          let less = ltb-true (position_or_len p xs) (length xs) h in
          (same, omega (arith, same, less))
      go false h f = absurd cc

  no_place : (xs : List X) → position p xs ≡ None → length xs ≤ position_or_len p xs
  no_place xs e = go (nat_lt (position_or_len p xs) (length xs)) refl e
    where
      go : (b : Bool) → nat_lt (position_or_len p xs) (length xs) ≡ b → cond b (Some (position_or_len p xs)) None ≡ None →
          length xs ≤ position_or_len p xs
      go true h f = absurd cc
      go false h f = let less = leb-false (suc (position_or_len p xs)) (length xs) h in omega (arith, less)

  place_is : (xs : List X) (k : ℕ) → position_or_len p xs ≡ k → k < length xs → position p xs ≡ Some k
  place_is xs k e less =
      ap (λ n. cond (nat_lt n (length xs)) (Some n) None) e ∙ ap (λ b. cond b (Some k) None) (lt-ltb k (length xs) less)

  none_is : (xs : List X) → length xs ≤ position_or_len p xs → position p xs ≡ None
  none_is xs more = elim (cases_Bool (nat_lt (position_or_len p xs) (length xs))) [
    | inl e ↦ let less = ltb-true (position_or_len p xs) (length xs) e in absurd (omega (arith, less, more))
    | inr e ↦ ap (λ b. cond b (Some (position_or_len p xs)) None) e
  ]

  within : (xs ys : List X) → position_or_len p xs < length xs → position_or_len p (xs ++ ys) ≡ position_or_len p xs
  within [] ys less = absurd (omega (arith, less))
  within (x ∷ xs) ys less = elim (cases_Bool (p x)) [
    | inl e ↦ ap (λ b. cond (not b) (1 + position_or_len p (xs ++ ys)) 0) e ∙ sym (ap (λ b. cond (not b) (1 + position_or_len p xs) 0) e)
    | inr e ↦
        let more : position_or_len p (x ∷ xs) ≡ 1 + position_or_len p xs = ap (λ b. cond (not b) (1 + position_or_len p xs) 0) e in
        let rest : position_or_len p xs < length xs = omega (arith, less, more) in
        ap (λ b. cond (not b) (1 + position_or_len p (xs ++ ys)) 0) e ∙ ap (λ n. 1 + n) (within xs ys rest) ∙ sym more
  ]

  over : (xs ys : List X) → length xs ≤ position_or_len p xs → position_or_len p (xs ++ ys) ≡ length xs + position_or_len p ys
  over [] ys none = let same : position_or_len p ys ≡ 0 + position_or_len p ys = omega arith in same
  over (x ∷ xs) ys none = elim (cases_Bool (p x)) [
    | inl e ↦
        let first : position_or_len p (x ∷ xs) ≡ 0 = ap (λ b. cond (not b) (1 + position_or_len p xs) 0) e in
        absurd (omega (arith, none, first))
    | inr e ↦
        let more : position_or_len p (x ∷ xs) ≡ 1 + position_or_len p xs = ap (λ b. cond (not b) (1 + position_or_len p xs) 0) e in
        let rest : length xs ≤ position_or_len p xs = omega (arith, none, more) in
        let sum : 1 + (length xs + position_or_len p ys) ≡ length (x ∷ xs) + position_or_len p ys = omega arith in
        ap (λ b. cond (not b) (1 + position_or_len p (xs ++ ys)) 0) e ∙ ap (λ n. 1 + n) (over xs ys rest) ∙ sum
  ]

  -- it is found in the first list
  pub in_first : (xs ys : List X) (k : ℕ) → position p xs ≡ Some k → position p (xs ++ ys) ≡ Some k
  in_first xs ys k e =
      let f = found_place xs k e in
      let long = length-append xs ys in
      let less : position_or_len p xs < length xs = omega (arith, f.0, f.1) in
      place_is (xs ++ ys) k (within xs ys less ∙ f.0) (omega (arith, f.1, long))

  -- it is found only in the second
  pub in_second : (xs ys : List X) (k : ℕ) → position p xs ≡ None → position p ys ≡ Some k → position p (xs ++ ys) ≡ Some (length xs + k)
  in_second xs ys k none e =
      let f = found_place ys k e in
      let long = length-append xs ys in
      place_is (xs ++ ys) (length xs + k) (over xs ys (no_place xs none) ∙ ap (λ n. length xs + n) f.0) (omega (arith, f.1, long))

  pub in_neither : (xs ys : List X) → position p xs ≡ None → position p ys ≡ None → position p (xs ++ ys) ≡ None
  in_neither xs ys none missing =
      let long = length-append xs ys in
      let at = over xs ys (no_place xs none) in
      let last = no_place ys missing in
      none_is (xs ++ ys) (omega (arith, at, last, long))
