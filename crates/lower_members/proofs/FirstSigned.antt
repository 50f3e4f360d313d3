-- The first item of a list that is entered from its end.
use Rattle.std.proofs.Common.{◌≡◌, ℕ, zero, suc, ◌+◌, ◌-◌, ◌<◌, ◌≤◌, inl, inr, List, [], ◌∷◌, ◌++◌, Some, None, length, cond, map, drop, reverse, sym, ◌∙◌, ap, refl, arith}
use Rattle.std.specs.Prelude.{Bool, true, false, slice_get, get_or, position, option_map}
use Rattle.std.proofs.lemmas.Bool.{cases_Bool}
use Rattle.std.proofs.lemmas.Grind.{reverse_onto}
use Rattle.std.proofs.lemmas.List.{drop_more, length-map, length-reverse, get_or-reverse}
use Rattle.std.proofs.lemmas.List.Quantifiers.{position-Some}
use Rattle.std.proofs.lemmas.Option.{get_or_from_slice_get, same_Some, slice_get_within, slice_get-get_or}
use Rattle.source_nodes.proofs.FirstLemmas.{position_is, position_none}
use Rattle.source_syntax.proofs.LabelLemmas.{position_first}

module _ {X : Type 0} where
  -- what stands at a place, counted from the end
  pub back_at : (ys : List X) (n place : ℕ) (y : X) → n ≡ length ys → place < n → slice_get ys (n - 1 - place) ≡ Some y → slice_get (reverse ys) place ≡ Some y
  back_at ys n place y e less at =
      let long = length-reverse ys in
      slice_get-get_or (reverse ys) place y (omega (arith, long, e, less))
      ∙ ap Some (get_or-reverse ys place y (omega (arith, e, less)) ∙ ap (λ m. get_or ys (m - 1 - place) y) (sym e) ∙ get_or_from_slice_get ys (n - 1 - place) y y at)

  pub front_at : (ys : List X) (k : ℕ) (y : X) → slice_get ys k ≡ Some y → slice_get (reverse ys) (length ys - 1 - k) ≡ Some y
  front_at ys k y at =
      let within = slice_get_within ys k y at in
      let same : length ys - 1 - (length ys - 1 - k) ≡ k = omega (arith, within) in
      back_at ys (length ys) (length ys - 1 - k) y refl (omega (arith, within)) (ap (slice_get ys) same ∙ at)

  -- one more is entered in front
  pub entered_next : (ys : List X) (k : ℕ) (y : X) → slice_get ys k ≡ Some y → reverse (drop k ys) ≡ reverse (drop (k + 1) ys) ++ y ∷ []
  entered_next ys k y at =
      ap reverse (drop_more ys k y (slice_get_within ys k y at) ∙ ap (λ z. z ∷ drop (k + 1) ys) (get_or_from_slice_get ys k y y at))
      ∙ reverse_onto (drop (k + 1) ys) y []

pub at_map : {X Y : Type 0} (g : X → Y) (xs : List X) (k : ℕ) (x : X) → slice_get xs k ≡ Some x → slice_get (map g xs) k ≡ Some (g x)
at_map g [] k x at = absurd cc
at_map g (y ∷ ys) zero x at = ap (λ z. Some (g z)) (same_Some y x at)
at_map g (y ∷ ys) (suc k) x at = at_map g ys k x at

-- the entry of a method, counted from the last
pub entry : {X Y : Type 0} (g : X → Y) (xs : List X) (place : ℕ) (x : X) → place < length xs → slice_get xs (length xs - 1 - place) ≡ Some x
    → slice_get (reverse (map g xs)) place ≡ Some (g x)
entry g xs place x less at = back_at (map g xs) (length xs) place (g x) (sym (length-map xs g)) less (at_map g xs (length xs - 1 - place) x at)

pub entries : {X Y : Type 0} (g : X → Y) (xs : List X) → length (reverse (map g xs)) ≡ length xs
entries g xs = length-reverse (map g xs) ∙ length-map xs g

module _ {X : Type 0} (p : X → Bool) (x : X) (same : (y : X) → p y ≡ true → y ≡ x) (itself : p x ≡ true) where
  -- the last place from the end is the first
  pub last_is_first : (ys : List X) (m n : ℕ) → n ≡ length ys → slice_get (reverse ys) m ≡ Some x → ((k : ℕ) → slice_get (reverse ys) k ≡ Some x → k ≤ m)
      → position p ys ≡ Some (n - 1 - m)
  last_is_first ys m n e at last =
      let within = slice_get_within (reverse ys) m x at in
      let long = length-reverse ys in
      let here : get_or ys (n - 1 - m) x ≡ x =
      ap (λ k. get_or ys (k - 1 - m) x) e ∙ sym (get_or-reverse ys m x (omega (arith, within, long))) ∙ get_or_from_slice_get (reverse ys) m x x at in
      position_is p ys (n - 1 - m) x (omega (arith, within, long, e)) (ap p here ∙ itself)
      (λ k less. earlier k (omega (arith, within, long, e, less)) (omega (arith, within, long, e, less)))
    where
      earlier : (k : ℕ) → k < length ys → m < length ys - 1 - k → p (get_or ys k x) ≡ false
      earlier k within later = elim (cases_Bool (p (get_or ys k x))) [
        | inr n ↦ n
        | inl e ↦
            let is = same (get_or ys k x) e in
            let place = last (length ys - 1 - k) (front_at ys k x (slice_get-get_or ys k x within ∙ ap Some is)) in
            absurd (omega (arith, later, place))
      ]

  pub nowhere_first : (ys : List X) → ((k : ℕ) → slice_get (reverse ys) k ≡ Some x → ⊥) → position p ys ≡ None
  nowhere_first ys none = position_none p ys each
    where
      each : (k : ℕ) (y : X) → slice_get ys k ≡ Some y → p y ≡ false
      each k y at = elim (cases_Bool (p y)) [
        | inr n ↦ n
        | inl e ↦ absurd (none (length ys - 1 - k) (front_at ys k x (at ∙ ap Some (same y e))))
      ]

-- the first of what a list gives is the first that gives it
pub position_map : {X Y : Type 0} (p : Y → Bool) (g : X → Y) (xs : List X) → position p (map g xs) ≡ position (λ x. p (g x)) xs
position_map p g [] = refl
position_map p g (x ∷ xs) =
    position_first p (g x) (map g xs) ∙ ap (λ o. cond (p (g x)) (Some 0) (option_map suc o)) (position_map p g xs)
    ∙ sym (position_first (λ x. p (g x)) x xs)

pub place_within : {X : Type 0} (p : X → Bool) (xs : List X) (k : ℕ) → position p xs ≡ Some k → k < length xs
place_within p [] k e = absurd cc
place_within p (x ∷ xs) k e = (position-Some p (x ∷ xs) k x e).0
