-- Members of lists of numbers.
use Rattle.std.proofs.Common.{◌≡◌, ℕ, zero, suc, ◌+◌, ◌<◌, ◌⊎◌, inl, inr, List, [], ◌∷◌, Contains, length, slice_index_or, take, get_or, refl, sym, subst, arith}
use Rattle.std.proofs.lemmas.List.{take_more, take_all}
use Rattle.std.proofs.lemmas.List.Elements.{Contains-append_cases}
use Rattle.image_namings.proofs.Among.{Among, from_among}
use Rattle.image_namings.proofs.Decided.{same}

at_place : (x : ℕ) (xs : List ℕ) (k : ℕ) → k < length xs → slice_index_or xs k x ≡ x → Among x xs
at_place x [] k lt e = absurd (omega arith)
at_place x (y ∷ ys) zero lt e = inl e
at_place x (y ∷ ys) (suc k) lt e = inr (at_place x ys k (omega arith) e)

pub to_among : (x : ℕ) (xs : List ℕ) → Contains xs x → Among x xs
to_among x xs c = at_place x xs c.0 c.1 c.2

among_or : (x : ℕ) (xs : List ℕ) → Among x xs ⊎ (Among x xs → ⊥)
among_or x [] = inr (λ h. h)
among_or x (y ∷ ys) = elim (same y x) [
  | inl e ↦ inl (inl e)
  | inr n ↦ elim (among_or x ys) [
    | inl h ↦ inl (inr h)
    | inr none ↦ inr (λ h. elim h [ inl e ↦ n e | inr k ↦ none k ])
  ]
]

-- a number is a member, or it is none
pub contains_or : (xs : List ℕ) (x : ℕ) → Contains xs x ⊎ (Contains xs x → ⊥)
contains_or xs x = elim (among_or x xs) [ inl h ↦ inl (from_among x xs h) | inr none ↦ inr (λ c. none (to_among x xs c)) ]

pub in_none : (x : ℕ) → Contains [] x → ⊥
in_none x c = to_among x [] c

pub in_one : (y x : ℕ) → Contains (y ∷ []) x → y ≡ x
in_one y x c = elim (to_among x (y ∷ []) c) [ inl e ↦ e | inr h ↦ absurd h ]

pub one_in : (x : ℕ) → Contains (x ∷ []) x
one_in x = (0, omega arith, refl)

-- the first ones and one more
pub front_cases : (rows : List ℕ) (k x : ℕ) → k < length rows → Contains (take (k + 1) rows) x → Contains (take k rows) x ⊎ (get_or rows k 0 ≡ x)
front_cases rows k x lt c = elim (Contains-append_cases (take k rows) (get_or rows k 0 ∷ []) x (subst (λ (l : List ℕ). Contains l x) (take_more rows k 0 lt) c)) [
  | inl h ↦ inl h
  | inr h ↦ inr (in_one (get_or rows k 0) x h)
]

pub in_all : (rows : List ℕ) (row : ℕ) → Contains rows row → Contains (take (length rows) rows) row
in_all rows row c = subst (λ (l : List ℕ). Contains l row) (sym (take_all (length rows) rows (omega arith))) c
