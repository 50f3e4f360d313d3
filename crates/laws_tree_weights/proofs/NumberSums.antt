-- What rows own by number is no more than what their tables list.
use Rattle.std.proofs.Common.{◌≡◌, ap, subst, ℕ, zero, suc, ◌+◌, ◌≤◌, List, [], ◌∷◌, map, drop, arith}
use Rattle.std.specs.Prelude.{sum_by, slice_get}
use Rattle.std.specs.List.{range_with_len}
use Rattle.std.proofs.lemmas.List.Sums.{sum_by-cons, sum_by-append}
use Rattle.metadata_tables.specs.declared.coded.Coded.{Coded}
use Rattle.image_tokens.specs.Indexes.{index_of}
use Rattle.image_members.specs.ByNumber.{or_none, owned_in, owned_at, by_number}
use Rattle.laws_tree_weights.proofs.Sums.{sum_mapped, sum_flat, sum_both, sum_least, sum_same}

module _ {X : Type 0} (g : X → ℕ) where
  abbrev pub lists_sum : List (List X) → ℕ
  lists_sum lists = sum_by (λ xs. sum_by g xs) lists

  -- what all rows of these tables own
  abbrev pub owned_sum : List (ℕ × List (List X)) → ℕ
  owned_sum [] = 0
  owned_sum ((table, lists) ∷ more) = lists_sum lists + owned_sum more

  abbrev item : List (List X) → ℕ → ℕ
  item lists k = sum_by g (or_none (slice_get lists k))

  -- one list, and those behind it
  next_list : (lists : List (List X)) (k : ℕ) → item lists k + lists_sum (drop (suc k) lists) ≤ lists_sum (drop k lists)
  next_list [] zero = omega arith
  next_list [] (suc k) = omega arith
  next_list (xs ∷ lists) zero = let all = sum_by-cons (λ ys. sum_by g ys) xs lists in omega arith
  next_list (xs ∷ lists) (suc k) = next_list lists k

  first_lists : (lists : List (List X)) (k n : ℕ) → sum_by (item lists) (range_with_len k n) ≤ lists_sum (drop k lists)
  first_lists lists k zero = omega arith
  first_lists lists k (suc n) =
      let same : k + 1 ≡ suc k = omega arith in
      let rest = subst (λ j. sum_by (item lists) (range_with_len j n) ≤ lists_sum (drop j lists)) same (first_lists lists (k + 1) n) in
      let ranges = ap (λ j. sum_by (item lists) (range_with_len j n)) same in
      let one = next_list lists k in
      let all = sum_by-cons (item lists) k (range_with_len (k + 1) n) in
      omega arith

  abbrev weigh : ℕ × X → ℕ
  weigh e = g e.1

  in_table : (kind : Coded) (table : ℕ) (lists : List (List X)) (more : List (ℕ × List (List X))) (k : ℕ)
      → sum_by weigh (owned_at kind ((table, lists) ∷ more) k) ≤ item lists k + sum_by weigh (owned_at kind more k)
  in_table kind table lists more k =
      let own = or_none (slice_get lists k) in
      let both = sum_by-append weigh (owned_in kind k (table, lists)) (owned_at kind more k) in
      let mapped = sum_mapped weigh (λ (x : X). (index_of kind table (k + 1), x)) own in
      omega arith

  in_tables : (kind : Coded) (tables : List (ℕ × List (List X))) (n : ℕ) → sum_by (λ k. sum_by weigh (owned_at kind tables k)) (range_with_len 0 n) ≤ owned_sum tables
  in_tables kind [] n = let none = sum_same 0 (range_with_len 0 n) in omega arith
  in_tables kind ((table, lists) ∷ more) n =
      let ks = range_with_len 0 n in
      let others : ℕ → ℕ = λ k. sum_by weigh (owned_at kind more k) in
      let less = sum_least (λ k. sum_by weigh (owned_at kind ((table, lists) ∷ more) k)) (λ k. item lists k + others k) (λ k. in_table kind table lists more k) ks in
      let both = sum_both (item lists) others ks in
      let first = first_lists lists 0 n in
      let rest = in_tables kind more n in
      omega arith

  -- however many rows are asked
  pub owned_most : (kind : Coded) (tables : List (ℕ × List (List X))) (n : ℕ) → sum_by (λ e. g e.1) (by_number kind tables n) ≤ owned_sum tables
  owned_most kind tables n = let flat = sum_flat weigh (owned_at kind tables) (range_with_len 0 n) in let most = in_tables kind tables n in omega arith

  -- a list for each of some items
  pub lists_mapped : {A : Type 0} (f : A → List X) (h : A → ℕ) → ((a : A) → sum_by g (f a) ≤ h a) → (rows : List A) → lists_sum (map f rows) ≤ sum_by h rows
  lists_mapped f h less rows =
      let mapped = sum_mapped (λ xs. sum_by g xs) f rows in
      let all = sum_least (λ a. sum_by g (f a)) h less rows in
      omega arith

  -- behind a row that owns nothing
  pub lists_behind : (lists : List (List X)) → lists_sum ([] ∷ lists) ≡ lists_sum lists
  lists_behind lists = let all = sum_by-cons (λ xs. sum_by g xs) [] lists in omega arith

  -- a row alone
  pub one_list : (xs : List X) → lists_sum (xs ∷ []) ≡ sum_by g xs
  one_list xs = let all = sum_by-cons (λ ys. sum_by g ys) xs [] in omega arith
