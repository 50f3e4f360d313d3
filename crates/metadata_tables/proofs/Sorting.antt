-- Keys of rows, one column after another.
use Rattle.std.proofs.Common.{◌≡◌, ℕ, zero, suc, ◌+◌, ◌<◌, ◌≤◌, List, [], ◌∷◌, length, map, get_or, drop, refl, ap, arith, inl, inr, ⊎_elim, Bool, true, ltb}
use Rattle.std.specs.List.{list_all}
use Rattle.std.proofs.lemmas.Bool.{agree_below, agree_below_at, and_parts, ltb-true, cases_lt}
use Rattle.std.proofs.lemmas.Bool.Decides.{nat_tests}
use Rattle.std.proofs.lemmas.List.{drop_more, drop_all}
use Rattle.metadata_tables.specs.Schema.{schema, columns_of}
use Rattle.metadata_tables.specs.Order.{sort_columns, IsNotAfter}

within : ℕ → Bool
within t = list_all (λ k. ltb k (length (columns_of t))) (sort_columns t)

all_within : agree_below within (λ _. true) 45 ≡ true
unfolding within sort_columns schema
all_within = refl

list_all_at : (p : ℕ → Bool) (xs : List ℕ) (i : ℕ) → list_all p xs ≡ true → i < length xs → p (get_or xs i 0) ≡ true
list_all_at p [] i all h = absurd (omega arith)
list_all_at p (x ∷ xs) zero all h = (and_parts (p x) (list_all p xs) all).0
list_all_at p (x ∷ xs) (suc i) all h =
    list_all_at p xs i (and_parts (p x) (list_all p xs) all).1 (omega arith)

sort_past : (t : ℕ) → 45 ≤ t → sort_columns t ≡ []
unfolding sort_columns
sort_past t h = grind (arith, nat_tests)

-- the columns that a table is sorted by are columns of it
pub sort_within : (t i : ℕ) → i < length (sort_columns t) → get_or (sort_columns t) i 0 < length (columns_of t)
unfolding within
sort_within t i h = ⊎_elim
    (λ inside. ltb-true _ _ (list_all_at (λ k. ltb k (length (columns_of t))) (sort_columns t) i (agree_below_at within (λ _. true) 45 t all_within inside) h))
    (λ past. let none = ap length (sort_past t past) in absurd (omega (arith, none, h)))
    (cases_lt t 45)

module _ (above here : ℕ → ℕ) (keys : List ℕ) where
  -- the keys from place i on are in order
  abbrev pub IsRestInOrder : ℕ → Type 0
  IsRestInOrder i = IsNotAfter (map above (drop i keys)) (map here (drop i keys))

  pub rest_all : (i : ℕ) → length keys ≤ i → IsRestInOrder i
  rest_all i h = let none = drop_all i keys h in rw none tt

  pub rest_step : (i : ℕ) → i < length keys → above (get_or keys i 0) ≡ here (get_or keys i 0) → IsRestInOrder (i + 1) → IsRestInOrder i
  rest_step i h same rest = let e = drop_more keys i 0 h in rw e (inr (same, rest))

  pub rest_back : (i : ℕ) → i < length keys → above (get_or keys i 0) ≡ here (get_or keys i 0) → IsRestInOrder i → IsRestInOrder (i + 1)
  rest_back i h same rest =
      let e = drop_more keys i 0 h in
      ⊎_elim (λ below. absurd (omega (arith, below, same))) (λ both. both.1) (rw e at rest)

  pub rest_below : (i : ℕ) → i < length keys → above (get_or keys i 0) < here (get_or keys i 0) → IsRestInOrder i
  rest_below i h below = let e = drop_more keys i 0 h in rw e (inl below)

  pub rest_above : (i : ℕ) → i < length keys → here (get_or keys i 0) < above (get_or keys i 0) → IsRestInOrder i → ⊥
  rest_above i h more rest =
      let e = drop_more keys i 0 h in
      ⊎_elim (λ below. absurd (omega (arith, below, more))) (λ both. absurd (omega (arith, both.0, more))) (rw e at rest)
