-- The first of a list that passes a test, in a list that is kept backwards.
use Rattle.std.proofs.Common.{◌≡◌, ℕ, zero, suc, ◌+◌, ◌-◌, ◌<◌, ◌≤◌, inl, inr, List, [], ◌∷◌, ◌++◌, Some, None, length, cond, sym, ◌∙◌, ap, refl, arith}
use Rattle.std.specs.Prelude.{Bool, true, false, not, slice_get, get_or, nat_lt, position, bytes_eq, reverse}
use Rattle.std.specs.List.{position_or_len}
use Rattle.std.proofs.lemmas.Bool.{cases_Bool, lt-ltb, ltb-true}
use Rattle.std.proofs.lemmas.List.{length-reverse, get_or-reverse, reverse-append}
use Rattle.std.proofs.lemmas.Option.{slice_get_within, get_or_from_slice_get, slice_get-get_or}
use Rattle.std.proofs.lemmas.Slice.Eq.{bytes_eq-Decides}

module _ {X : Type 0} (p : X → Bool) where
  stands_at : (ys : List X) (i : ℕ) (d : X) → i < length ys → p (get_or ys i d) ≡ true → ((k : ℕ) → k < i → p (get_or ys k d) ≡ false)
      → position_or_len p ys ≡ i
  stands_at [] i d less h n = absurd (omega (arith, less))
  stands_at (y ∷ ys) zero d less h n = ap (λ b. cond (not b) (1 + position_or_len p ys) 0) h
  stands_at (y ∷ ys) (suc i) d less h n =
      ap (λ b. cond (not b) (1 + position_or_len p ys) 0) (n 0 (omega arith))
      ∙ ap (λ m. 1 + m) (stands_at ys i d (omega (arith, less)) h (λ k l. n (suc k) (omega (arith, l)))) ∙ one_more i
    where
      one_more : (m : ℕ) → 1 + m ≡ suc m
      one_more m = omega arith

  stands_nowhere : (ys : List X) → ((k : ℕ) (x : X) → slice_get ys k ≡ Some x → p x ≡ false) → position_or_len p ys ≡ length ys
  stands_nowhere [] n = refl
  stands_nowhere (y ∷ ys) n =
      ap (λ b. cond (not b) (1 + position_or_len p ys) 0) (n 0 y refl) ∙ ap (λ m. 1 + m) (stands_nowhere ys (λ k x at. n (suc k) x at)) ∙ one_more (length ys)
    where
      one_more : (m : ℕ) → 1 + m ≡ suc m
      one_more m = omega arith

  -- the first that passes, where it stands at i
  pub position_is : (ys : List X) (i : ℕ) (d : X) → i < length ys → p (get_or ys i d) ≡ true → ((k : ℕ) → k < i → p (get_or ys k d) ≡ false)
      → position p ys ≡ Some i
  position_is ys i d less h n =
      ap (λ k. cond (nat_lt k (length ys)) (Some k) None) (stands_at ys i d less h n)
      ∙ ap (λ b. cond b (Some i) None) (lt-ltb i (length ys) less)

  pub position_none : (ys : List X) → ((k : ℕ) (x : X) → slice_get ys k ≡ Some x → p x ≡ false) → position p ys ≡ None
  position_none ys n =
      ap (λ k. cond (nat_lt k (length ys)) (Some k) None) (stands_nowhere ys n) ∙ never (length ys)
    where
      never : (n : ℕ) → cond (nat_lt n n) (Some n) None ≡ None
      never n = elim (cases_Bool (nat_lt n n)) [
        | inl e ↦ let less = ltb-true n n e in absurd (omega (arith, less))
        | inr e ↦ ap (λ b. cond b (Some n) None) e
      ]

-- the last place of a text is the first in the list backwards
text_same : (x y : List ℕ) → bytes_eq x y ≡ true → y ≡ x
text_same x y e = sym ((bytes_eq-Decides x y).0 e)

pub newest_is_first : (xs : List (List ℕ)) (m n : ℕ) (x : List ℕ) → slice_get xs m ≡ Some x → ((k : ℕ) → slice_get xs k ≡ Some x → k ≤ m)
    → n ≡ length xs → position (bytes_eq x) (reverse xs) ≡ Some (n - 1 - m)
newest_is_first xs m n x at last e =
    let within = slice_get_within xs m x at in
    let long = length-reverse xs in
    let back : length xs - 1 - (n - 1 - m) ≡ m = omega (arith, within, e) in
    let here : get_or (reverse xs) (n - 1 - m) x ≡ x =
    get_or-reverse xs (n - 1 - m) x (omega (arith, within, e)) ∙ ap (λ k. get_or xs k x) back ∙ get_or_from_slice_get xs m x x at in
    position_is (bytes_eq x) (reverse xs) (n - 1 - m) x (omega (arith, within, e, long))
    (ap (bytes_eq x) here ∙ (bytes_eq-Decides x x).1 refl)
    (λ k less. earlier k (omega (arith, within, e, less)) (omega (arith, within, e, less)))
  where
    earlier : (k : ℕ) → k < length xs → m < length xs - 1 - k → bytes_eq x (get_or (reverse xs) k x) ≡ false
    earlier k within later = elim (cases_Bool (bytes_eq x (get_or (reverse xs) k x))) [
      | inr n ↦ n
      | inl y ↦
          let is : get_or xs (length xs - 1 - k) x ≡ x = sym (get_or-reverse xs k x within) ∙ text_same x (get_or (reverse xs) k x) y in
          let also : slice_get xs (length xs - 1 - k) ≡ Some x = slice_get-get_or xs (length xs - 1 - k) x (omega (arith, within)) ∙ ap Some is in
          absurd (omega (arith, later, last (length xs - 1 - k) also))
    ]

pub absent_is_nowhere : (xs : List (List ℕ)) (x : List ℕ) → ((k : ℕ) → slice_get xs k ≡ Some x → ⊥) → position (bytes_eq x) (reverse xs) ≡ None
absent_is_nowhere xs x none = position_none (bytes_eq x) (reverse xs) each
  where
    each : (k : ℕ) (y : List ℕ) → slice_get (reverse xs) k ≡ Some y → bytes_eq x y ≡ false
    each k y at = elim (cases_Bool (bytes_eq x y)) [
      | inr n ↦ n
      | inl same ↦
          let long = length-reverse xs in
          let within = slice_get_within (reverse xs) k y at in
          let is : get_or xs (length xs - 1 - k) x ≡ x =
          sym (get_or-reverse xs k x (omega (arith, within, long))) ∙ get_or_from_slice_get (reverse xs) k y x at ∙ text_same x y same in
          absurd (none (length xs - 1 - k) (slice_get-get_or xs (length xs - 1 - k) x (omega (arith, within, long)) ∙ ap Some is))
    ]

-- a list with one more at its end, backwards
pub reverse_push : {X : Type 0} (xs : List X) (x : X) → reverse (xs ++ x ∷ []) ≡ x ∷ reverse xs
reverse_push xs x = reverse-append xs (x ∷ [])

-- what stands at a place of a list backwards
pub reversed_at : (xs : List (List ℕ)) (n k : ℕ) (x : List ℕ) → n ≡ length xs → k < length xs → slice_get xs (n - 1 - k) ≡ Some x
    → x ≡ get_or (reverse xs) k []
reversed_at xs n k x e within at =
    sym (get_or-reverse xs k [] within ∙ ap (λ m. get_or xs (m - 1 - k) []) (sym e) ∙ get_or_from_slice_get xs (n - 1 - k) x [] at)
