-- What a sort and the removal of repeats leave of a list of numbers.
use Rattle.std.proofs.Common.{◌≡◌, ℕ, ◌<◌, List, length, sym, subst, nat_eq, arith}
use Rattle.std.specs.Prelude.{slice_index_or, ◌↔◌}
use Rattle.std.specs.List.{Contains, dedup}
use Rattle.std.specs.List.Sorted.{IsPermutation, IsSorted}
use Rattle.std.specs.Ordering.{nat_cmp}
use Rattle.std.proofs.lemmas.List.Kept.{Contains-dedup_nat, Contains-from_dedup, AllPairs-from_increasing}
use Rattle.std.proofs.lemmas.List.Sorted.{Contains-permutation, IsPermutation-sym}
use Rattle.std.proofs.lemmas.Map.Keys.{IsStrictlyIncreasing-dedup}

pub same_numbers : (xs ys zs : List ℕ) → IsPermutation xs ys → zs ≡ dedup nat_eq ys → (t : ℕ) → Contains zs t ↔ Contains xs t
same_numbers xs ys zs p e t = (
  λ h. Contains-permutation ys xs t (IsPermutation-sym xs ys p) (Contains-from_dedup nat_eq ys t (subst (λ (l : List ℕ). Contains l t) e h)),
  λ h. subst (λ (l : List ℕ). Contains l t) (sym e) (Contains-dedup_nat ys t (Contains-permutation xs ys t p h)),
)

once_by : (ys : List ℕ) → IsSorted nat_cmp ys → (i j : ℕ) (d : ℕ) → i < j → j < length (dedup nat_eq ys)
    → slice_index_or (dedup nat_eq ys) i d ≡ slice_index_or (dedup nat_eq ys) j d → ⊥
once_by ys s i j d a b e = let less = AllPairs-from_increasing (dedup nat_eq ys) (IsStrictlyIncreasing-dedup ys s) i j d a b in omega (arith, less, e)

pub once : (ys zs : List ℕ) → IsSorted nat_cmp ys → zs ≡ dedup nat_eq ys → (i j : ℕ) (d : ℕ) → i < j → j < length zs → slice_index_or zs i d ≡ slice_index_or zs j d → ⊥
once ys zs s e = subst (λ (l : List ℕ). (i j : ℕ) (d : ℕ) → i < j → j < length l → slice_index_or l i d ≡ slice_index_or l j d → ⊥) (sym e) (once_by ys s)
