-- Numbers that rise, and ranges of them.
use Rattle.std.proofs.Common.{◌≡◌, ℕ, zero, suc, ◌+◌, ◌≤◌, inl, inr, Bool, true, false, cond, List, [], ◌∷◌, filter, refl, ◌∙◌, ap, subst, arith}
use Rattle.std.specs.List.{range_with_len}
use Rattle.row_parts.proofs.OwnedRows.{Among}

kept : (test : ℕ → Bool) (x y : ℕ) (ys zs : List ℕ) → (Among x zs → Among x ys × (test x ≡ true)) → (b : Bool) → test y ≡ b → Among x (cond b (y ∷ zs) zs) → Among x (y ∷ ys) × (test x ≡ true)
kept test x y ys zs f true e (inl g) = (inl g, subst (λ z. test z ≡ true) g e)
kept test x y ys zs f true e (inr h) = let r = f h in (inr r.0, r.1)
kept test x y ys zs f false e h = let r = f h in (inr r.0, r.1)

pub among_filter : (test : ℕ → Bool) (x : ℕ) (xs : List ℕ) → Among x (filter test xs) → Among x xs × (test x ≡ true)
among_filter test x [] h = absurd h
among_filter test x (y ∷ ys) h = kept test x y ys (filter test ys) (among_filter test x ys) (test y) refl h

keep : (x y : ℕ) (ys : List ℕ) (b : Bool) → Among x ys → Among x (cond b (y ∷ ys) ys)
keep x y ys true h = inr h
keep x y ys false h = h

pub filter_among : (test : ℕ → Bool) (x : ℕ) (xs : List ℕ) → Among x xs → test x ≡ true → Among x (filter test xs)
filter_among test x [] h e = h
filter_among test x (y ∷ ys) (inl f) e = rw (ap test f ∙ e) (inl f)
filter_among test x (y ∷ ys) (inr h) e = keep x y (filter test ys) (test y) (filter_among test x ys h e)

-- each is more than the one before, and the first at least this
abbrev pub Rises : ℕ → List ℕ → Type 0
Rises low [] = Unit {0}
Rises low (x ∷ xs) = (low ≤ x) × Rises (x + 1) xs

pub range_rises : (a n : ℕ) → Rises a (range_with_len a n)
range_rises a zero = tt
range_rises a (suc n) = (omega arith, range_rises (a + 1) n)

pub lower : (low high : ℕ) (xs : List ℕ) → low ≤ high → Rises high xs → Rises low xs
lower low high [] le r = tt
lower low high (x ∷ xs) le r = (let h = r.0 in omega arith, r.1)

pub filter_rises : (test : ℕ → Bool) (low : ℕ) (xs : List ℕ) → Rises low xs → Rises low (filter test xs)
filter_rises test low [] r = tt
filter_rises test low (x ∷ xs) r = go (test x) (filter_rises test (x + 1) xs r.1)
  where
    go : (b : Bool) → Rises (x + 1) (filter test xs) → Rises low (cond b (x ∷ filter test xs) (filter test xs))
    go true k = (r.0, k)
    go false k = lower low (x + 1) (filter test xs) (let h = r.0 in omega arith) k

pub rises_to : (low y : ℕ) (xs : List ℕ) → Rises low xs → Among y xs → low ≤ y
rises_to low y [] r m = absurd m
rises_to low y (x ∷ xs) r (inl e) = let h = r.0 in omega arith
rises_to low y (x ∷ xs) r (inr m) = let h = r.0 in let k = rises_to (x + 1) y xs r.1 m in omega arith
