-- One text more behind others: what the distinct ones of them take.
use Rattle.std.proofs.Common.{◌≡◌, ◌⊎◌, ap, refl, sym, ◌∙◌, ℕ, zero, suc, ◌+◌, ◌||◌, ◌&&◌, Bool, true, false, true≢false, cond, nat_eq, List, [], ◌∷◌, ◌++◌, Some, inl, inr, arith}
use Rattle.std.specs.Prelude.{slice_get, sum_by}
use Rattle.std.specs.List.{list_any}
use Rattle.std.proofs.lemmas.Bool.{cases_Bool, eq-eqb, eqb-true}
use Rattle.std.proofs.lemmas.List.Sums.{sum_by-cons}
use lib.Pointwise.{pointwise}
use Rattle.assembly_tree.specs.Room.{Units, distinct, entry_size, room_of_texts}

-- whether a text is one of some
abbrev is_in : Units → List Units → Bool
is_in u ts = list_any (pointwise nat_eq u) ts

abbrev taken : List Units → ℕ
taken ts = sum_by entry_size (distinct ts)

-- ---- equal texts

same_units : (a b : Units) → pointwise nat_eq a b ≡ true → a ≡ b
same_units [] [] h = refl
same_units [] (y ∷ b) h = absurd (true≢false (sym h))
same_units (x ∷ a) [] h = absurd (true≢false (sym h))
same_units (x ∷ a) (y ∷ b) h = elim (cases_Bool (nat_eq x y)) [
  | inl e ↦
      let p = eqb-true x y e in
      let q = same_units a b (sym (ap (λ t. t && pointwise nat_eq a b) e) ∙ h) in
      λ i. p i ∷ q i
  | inr e ↦ absurd (true≢false (sym h ∙ ap (λ t. t && pointwise nat_eq a b) e))
]

own_units : (a : Units) → pointwise nat_eq a a ≡ true
own_units [] = refl
own_units (x ∷ a) = ap (λ t. t && pointwise nat_eq a a) (eq-eqb x x refl) ∙ own_units a

-- ---- texts among others

either_true : (a b : Bool) → (a || b) ≡ true → (a ≡ true) ⊎ (b ≡ true)
either_true true b h = inl refl
either_true false b h = inr h

in_at : (u : Units) (ts : List Units) → is_in u ts ≡ true → (k : ℕ) × (slice_get ts k ≡ Some u)
in_at u [] h = absurd (true≢false (sym h))
in_at u (t ∷ ts) h = elim (either_true (pointwise nat_eq u t) (is_in u ts) h) [
  | inl e ↦ (0, ap Some (sym (same_units u t e)))
  | inr e ↦ let more = in_at u ts e in (suc more.0, more.1)
]

true_or : (a b : Bool) → b ≡ true → (a || b) ≡ true
true_or true b h = refl
true_or false b h = h

at_in : (u : Units) (ts : List Units) (k : ℕ) → slice_get ts k ≡ Some u → is_in u ts ≡ true
at_in u [] k h = absurd cc
at_in u (t ∷ ts) zero h =
    let e : t ≡ u = cc in
    ap (λ b. b || is_in u ts) (ap (λ x. pointwise nat_eq u x) e ∙ own_units u)
at_in u (t ∷ ts) (suc k) h = true_or (pointwise nat_eq u t) (is_in u ts) (at_in u ts k h)

-- behind others
in_front : (t u : Units) (ts : List Units) → is_in t ts ≡ true → is_in t (ts ++ u ∷ []) ≡ true
in_front t u [] h = absurd (true≢false (sym h))
in_front t u (x ∷ ts) h = elim (either_true (pointwise nat_eq t x) (is_in t ts) h) [
  | inl e ↦ ap (λ b. b || is_in t (ts ++ u ∷ [])) e
  | inr e ↦ true_or (pointwise nat_eq t x) (is_in t (ts ++ u ∷ [])) (in_front t u ts e)
]

in_behind : (t : Units) (ts : List Units) → is_in t (ts ++ t ∷ []) ≡ true
in_behind t [] = ap (λ b. b || false) (own_units t)
in_behind t (x ∷ ts) = true_or (pointwise nat_eq t x) (is_in t (ts ++ t ∷ [])) (in_behind t ts)

where_from : (t u : Units) (ts : List Units) → (t ≡ u → ⊥) → is_in t ts ≡ false → is_in t (ts ++ u ∷ []) ≡ true → ⊥
where_from t u [] other none h = elim (either_true (pointwise nat_eq t u) false h) [
  | inl e ↦ other (same_units t u e)
  | inr e ↦ true≢false (sym e)
]
where_from t u (x ∷ ts) other none h = elim (cases_Bool (pointwise nat_eq t x)) [
  | inl e ↦ true≢false (sym (ap (λ b. b || is_in t ts) e) ∙ none)
  | inr e ↦ where_from t u ts other (sym (ap (λ b. b || is_in t ts) e) ∙ none) (sym (ap (λ b. b || is_in t (ts ++ u ∷ [])) e) ∙ h)
]

not_behind : (t u : Units) (ts : List Units) → (t ≡ u → ⊥) → is_in t ts ≡ false → is_in t (ts ++ u ∷ []) ≡ false
not_behind t u ts other none = elim (cases_Bool (is_in t (ts ++ u ∷ []))) [
  | inr e ↦ e
  | inl e ↦ absurd (where_from t u ts other none e)
]

-- ---- what they take

taken_in : (t : Units) (ts : List Units) → is_in t ts ≡ true → taken (t ∷ ts) ≡ taken ts
taken_in t ts h = ap (λ b. sum_by entry_size (cond b (distinct ts) (t ∷ distinct ts))) h

taken_out : (t : Units) (ts : List Units) → is_in t ts ≡ false → taken (t ∷ ts) ≡ entry_size t + taken ts
taken_out t ts h = ap (λ b. sum_by entry_size (cond b (distinct ts) (t ∷ distinct ts))) h ∙ sum_by-cons entry_size t (distinct ts)

pub taken_new : (ts : List Units) (u : Units) → ((k : ℕ) → slice_get ts k ≡ Some u → ⊥) → taken (ts ++ u ∷ []) ≡ taken ts + entry_size u
taken_new [] u none = let one = taken_out u [] refl in omega arith
taken_new (t ∷ ts) u none =
    let more = taken_new ts u (λ k h. none (suc k) h) in
    let other : t ≡ u → ⊥ = λ e. none 0 (ap Some e) in
    elim (cases_Bool (is_in t ts)) [
      | inl e ↦ let p = taken_in t (ts ++ u ∷ []) (in_front t u ts e) in let q = taken_in t ts e in omega arith
      | inr e ↦ let p = taken_out t (ts ++ u ∷ []) (not_behind t u ts other e) in let q = taken_out t ts e in omega arith
    ]

pub find_text : (u : Units) (ts : List Units) → ((k : ℕ) × (slice_get ts k ≡ Some u)) ⊎ ((k : ℕ) → slice_get ts k ≡ Some u → ⊥)
find_text u ts = elim (cases_Bool (is_in u ts)) [
  | inl e ↦ inl (in_at u ts e)
  | inr e ↦ inr (λ k h. true≢false (sym (at_in u ts k h) ∙ e))
]

pub taken_there : (ts : List Units) (u : Units) (k : ℕ) → slice_get ts k ≡ Some u → taken (ts ++ u ∷ []) ≡ taken ts
taken_there [] u k h = absurd cc
taken_there (t ∷ ts) u zero h =
    let e : t ≡ u = cc in
    let behind : is_in t (ts ++ u ∷ []) ≡ true = ap (λ x. is_in t (ts ++ x ∷ [])) (sym e) ∙ in_behind t ts in
    let p = taken_in t (ts ++ u ∷ []) behind in
    elim (cases_Bool (is_in t ts)) [
      | inl there ↦
          let at = in_at t ts there in
          let more = taken_there ts u at.0 (at.1 ∙ ap Some e) in
          let q = taken_in t ts there in
          omega arith
      | inr none ↦
          let more = taken_new ts u (λ k h. true≢false (sym (at_in u ts k h) ∙ ap (λ x. is_in x ts) (sym e) ∙ none)) in
          let q = taken_out t ts none in
          let same = ap entry_size e in
          omega arith
    ]
taken_there (t ∷ ts) u (suc k) h =
    let more = taken_there ts u k h in
    elim (cases_Bool (is_in t ts)) [
      | inl e ↦ let p = taken_in t (ts ++ u ∷ []) (in_front t u ts e) in let q = taken_in t ts e in omega arith
      | inr e ↦
          let other : t ≡ u → ⊥ = λ same. true≢false (sym (at_in u ts k h) ∙ ap (λ x. is_in x ts) (sym same) ∙ e) in
          let p = taken_out t (ts ++ u ∷ []) (not_behind t u ts other e) in
          let q = taken_out t ts e in
          omega arith
    ]

-- the room with one more

pub room_there : (ts : List Units) (u : Units) (k : ℕ) → slice_get ts k ≡ Some u → room_of_texts (ts ++ u ∷ []) ≡ room_of_texts ts
room_there ts u k h = ap (λ n. 1 + n) (taken_there ts u k h)

pub room_new : (ts : List Units) (u : Units) → ((k : ℕ) → slice_get ts k ≡ Some u → ⊥) → room_of_texts (ts ++ u ∷ []) ≡ room_of_texts ts + entry_size u
room_new ts u none = let more = taken_new ts u none in omega arith
