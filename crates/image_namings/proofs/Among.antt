-- Members of lists of rows.
use Rattle.std.proofs.Common.{Contains, find, Some, ◌≡◌, ℕ, zero, suc, ◌+◌, ◌<◌, ◌≤◌, ◌⊎◌, inl, inr, Bool, true, false, List, [], ◌∷◌, cond, filter, refl, ◌∙◌, ap, subst, arith}
use Rattle.std.specs.List.{range_with_len}
use Rattle.image_namings.proofs.Decided.{some_is, none_is_not}

-- members by recursion
abbrev pub Among : ℕ → List ℕ → Type 0
Among x [] = ⊥
Among x (y ∷ ys) = (y ≡ x) ⊎ Among x ys

keep : (x y : ℕ) (ys : List ℕ) (b : Bool) → Among x ys → Among x (cond b (y ∷ ys) ys)
keep x y ys true h = inr h
keep x y ys false h = h

pub filter_among : (test : ℕ → Bool) (x : ℕ) (xs : List ℕ) → Among x xs → test x ≡ true → Among x (filter test xs)
filter_among test x [] h e = h
filter_among test x (y ∷ ys) (inl f) e = rw (ap test f ∙ e) (inl f)
filter_among test x (y ∷ ys) (inr h) e = keep x y (filter test ys) (test y) (filter_among test x ys h e)

first_or_later : (a x : ℕ) → a ≤ x → (a ≡ x) ⊎ (a + 1 ≤ x)
first_or_later a x low = grind arith

pub range_among : (x a n : ℕ) → a ≤ x → x < a + n → Among x (range_with_len a n)
range_among x a zero low high = absurd (omega arith)
range_among x a (suc n) low high = elim (first_or_later a x low) [
  | inl e ↦ inl e
  | inr late ↦ inr (range_among x (a + 1) n late (omega arith))
]

pub among_range : (x a n : ℕ) → Among x (range_with_len a n) → (a ≤ x) × (x < a + n)
among_range x a zero h = absurd h
among_range x a (suc n) (inl e) = (omega arith, omega arith)
among_range x a (suc n) (inr h) = let r = among_range x (a + 1) n h in (omega (arith, r.0), omega (arith, r.1))

kept : (test : ℕ → Bool) (x y : ℕ) (ys zs : List ℕ) → (Among x zs → Among x ys × (test x ≡ true)) → (b : Bool) → test y ≡ b → Among x (cond b (y ∷ zs) zs) → Among x (y ∷ ys) × (test x ≡ true)
kept test x y ys zs f true e (inl g) = (inl g, subst (λ z. test z ≡ true) g e)
kept test x y ys zs f true e (inr h) = let r = f h in (inr r.0, r.1)
kept test x y ys zs f false e h = let r = f h in (inr r.0, r.1)

pub among_filter : (test : ℕ → Bool) (x : ℕ) (xs : List ℕ) → Among x (filter test xs) → Among x xs × (test x ≡ true)
among_filter test x [] h = absurd h
among_filter test x (y ∷ ys) h = kept test x y ys (filter test ys) (among_filter test x ys) (test y) refl h

-- ---- what is found is among what is searched, and passes

found_at : (test : ℕ → Bool) (y : ℕ) (ys : List ℕ) (x : ℕ) (b : Bool) → test y ≡ b → cond b (Some y) (find test ys) ≡ Some x → (find test ys ≡ Some x → Among x ys × (test x ≡ true)) → Among x (y ∷ ys) × (test x ≡ true)
found_at test y ys x true is e go = let s = some_is y x e in (inl s, subst (λ z. test z ≡ true) s is)
found_at test y ys x false is e go = let r = go e in (inr r.0, r.1)

pub found : (test : ℕ → Bool) (xs : List ℕ) (x : ℕ) → find test xs ≡ Some x → Among x xs × (test x ≡ true)
found test [] x e = absurd (none_is_not e)
found test (y ∷ ys) x e = found_at test y ys x (test y) refl e (found test ys x)

-- ---- members by place

pub from_among : (x : ℕ) (xs : List ℕ) → Among x xs → Contains xs x
from_among x [] h = absurd h
from_among x (y ∷ ys) (inl e) = (0, omega arith, e)
from_among x (y ∷ ys) (inr h) = let c = from_among x ys h in (suc c.0, omega (arith, c.1), c.2)
