-- Rows of a table that hold a value in a column: where they stand side by side, each of them does.
use Rattle.std.proofs.Common.{◌≡◌, ℕ, zero, suc, ◌+◌, ◌<◌, ◌≤◌, ◌⊎◌, inl, inr, Bool, true, false, cond, nat_eq, List, [], ◌∷◌, filter, length, refl, sym, ◌∙◌, ap, subst, arith}
use Rattle.std.proofs.lemmas.Bool.{eqb-true, eq-eqb}
use Rattle.std.proofs.lemmas.List.Elements.{recursion_from_All}
use Rattle.std.proofs.lemmas.List.FromFn.{length-range_with_len, get_or-range_with_len}
use Rattle.std.specs.List.{AllByRecursion, range_with_len}
use Rattle.std.specs.Prelude.{All, Contains}
use Rattle.image_model.specs.Rows.{count_of, HasRow, rows_of, rows_with}

-- members by recursion
abbrev pub Among : ℕ → List ℕ → Type 0
Among x [] = ⊥
Among x (y ∷ ys) = (y ≡ x) ⊎ Among x ys

same_or_later : (a x : ℕ) → a ≤ x → (a ≡ x) ⊎ (a + 1 ≤ x)
same_or_later a x low = grind arith

pub range_among : (x a n : ℕ) → a ≤ x → x < a + n → Among x (range_with_len a n)
range_among x a zero low high = absurd (omega arith)
range_among x a (suc n) low high = elim (same_or_later a x low) [
  | inl e ↦ inl e
  | inr late ↦ inr (range_among x (a + 1) n late (omega arith))
]

pub among_range : (x a n : ℕ) → Among x (range_with_len a n) → (a ≤ x) × (x < a + n)
among_range x a zero h = absurd h
among_range x a (suc n) (inl e) = (omega arith, omega arith)
among_range x a (suc n) (inr h) = let r = among_range x (a + 1) n h in (omega (arith, r.0), omega (arith, r.1))

keep : (x y : ℕ) (ys : List ℕ) (b : Bool) → Among x ys → Among x (cond b (y ∷ ys) ys)
keep x y ys true h = inr h
keep x y ys false h = h

filter_among : (test : ℕ → Bool) (x : ℕ) (xs : List ℕ) → Among x xs → test x ≡ true → Among x (filter test xs)
filter_among test x [] h e = h
filter_among test x (y ∷ ys) (inl f) e = rw (ap test f ∙ e) (inl f)
filter_among test x (y ∷ ys) (inr h) e = keep x y (filter test ys) (test y) (filter_among test x ys h e)

kept : (test : ℕ → Bool) (x y : ℕ) (ys zs : List ℕ) → (Among x zs → Among x ys × (test x ≡ true)) → (b : Bool) → test y ≡ b → Among x (cond b (y ∷ zs) zs) → Among x (y ∷ ys) × (test x ≡ true)
kept test x y ys zs f true e (inl g) = (inl g, subst (λ z. test z ≡ true) g e)
kept test x y ys zs f true e (inr h) = let r = f h in (inr r.0, r.1)
kept test x y ys zs f false e h = let r = f h in (inr r.0, r.1)

among_filter : (test : ℕ → Bool) (x : ℕ) (xs : List ℕ) → Among x (filter test xs) → Among x xs × (test x ≡ true)
among_filter test x [] h = absurd h
among_filter test x (y ∷ ys) h = kept test x y ys (filter test ys) (among_filter test x ys) (test y) refl h

-- a row that holds the value is among those that do
pub among_owned : (image : List ℕ) (table : ℕ) (column : List ℕ → ℕ → ℕ) (value row : ℕ) → HasRow image table row → column image row ≡ value → Among row (rows_with image table column value)
unfolding rows_with rows_of
among_owned image table column value row there e =
    filter_among (λ r. nat_eq (column image r) value) row (range_with_len 1 (count_of image table)) (range_among row 1 (count_of image table) (omega (arith, there.0)) (omega (arith, there.1))) (eq-eqb (column image row) value e)

pub owned_among : (image : List ℕ) (table : ℕ) (column : List ℕ → ℕ → ℕ) (value row : ℕ) → Among row (rows_with image table column value) → HasRow image table row × (column image row ≡ value)
unfolding rows_with rows_of
owned_among image table column value row h =
    let f = among_filter (λ r. nat_eq (column image r) value) row (range_with_len 1 (count_of image table)) h in
    let r = among_range row 1 (count_of image table) f.0 in
    ((omega (arith, r.0), omega (arith, r.1)), eqb-true (column image row) value f.1)

pub owned_row : (image : List ℕ) (table : ℕ) (column : List ℕ → ℕ → ℕ) (value first count k : ℕ) → rows_with image table column value ≡ range_with_len first count → k < count
    → HasRow image table (first + k) × (column image (first + k) ≡ value)
owned_row image table column value first count k rows less =
    owned_among image table column value (first + k) (subst (Among (first + k)) (sym rows) (range_among (first + k) first count (omega arith) (omega arith)))

by_recursion : (P : ℕ → Type 0) (x : ℕ) (xs : List ℕ) → AllByRecursion P xs → Among x xs → P x
by_recursion P x [] h m = absurd m
by_recursion P x (y ∷ ys) h (inl e) = subst P e h.0
by_recursion P x (y ∷ ys) h (inr m) = by_recursion P x ys h.1 m

-- what holds of all of them holds of each row that holds the value
pub all_owned : (P : ℕ → Type 0) (image : List ℕ) (table : ℕ) (column : List ℕ → ℕ → ℕ) (value row : ℕ) → All P (rows_with image table column value) → HasRow image table row → column image row ≡ value → P row
all_owned P image table column value row h there e =
    by_recursion P row (rows_with image table column value) (recursion_from_All P (rows_with image table column value) h) (among_owned image table column value row there e)

-- at most one row
pub few_owned : (rows : List ℕ) (first count : ℕ) → rows ≡ range_with_len first count → length rows ≤ 1 → count ≤ 1
few_owned rows first count e few = let l = ap length e ∙ length-range_with_len first count in omega arith

-- each of the rows that stand side by side is among them
pub range_contains : (first count k : ℕ) → k < count → Contains (range_with_len first count) (first + k)
range_contains first count k less =
    (k, (let l = length-range_with_len first count in omega arith), get_or-range_with_len first count k (first + k) less)
