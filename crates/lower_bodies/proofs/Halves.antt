-- A search by halves among numbers that never fall.
use Rattle.std.proofs.Common.{◌≡◌, ℕ, suc, zero, ◌<◌, ◌≤◌, ◌+◌, List, [], ◌∷◌, length, map, get_or, slice_get, ap, arith}
use Rattle.std.specs.Prelude.{true, false, nat_lt, Some}
use Rattle.std.specs.List.Sorted.{IsNonDecreasing}
use Rattle.std.proofs.lemmas.Bool.{le-ltb, lt-ltb}
use Rattle.source_model.specs.Forest.{Part}
use Rattle.source_model.specs.Instructions.{mnemonic_token}

-- all before a place are less than a number
abbrev pub AreLess : ℕ → ℕ → List ℕ → Type 0
AreLess k n xs = (i : ℕ) → i < n → nat_lt (get_or xs i 0) k ≡ true

-- all from a place on are not
abbrev pub AreNotLess : ℕ → ℕ → List ℕ → Type 0
AreNotLess k n xs = (i : ℕ) → n ≤ i → i < length xs → nat_lt (get_or xs i 0) k ≡ false

pub less_up_to : (k m x : ℕ) (xs : List ℕ) → IsNonDecreasing xs → m < length xs → get_or xs m 0 ≡ x → x < k → AreLess k (m + 1) xs
less_up_to k m x xs rises within at less i before =
    let h = rises i m 0 (omega (arith, before)) within in lt-ltb (get_or xs i 0) k (omega (arith, h, at, less))

pub not_less_from : (k m x : ℕ) (xs : List ℕ) → IsNonDecreasing xs → get_or xs m 0 ≡ x → k ≤ x → AreNotLess k m xs
not_less_from k m x xs rises at most i from inside =
    let h = rises m i 0 from inside in le-ltb (get_or xs i 0) k (omega (arith, h, at, most))

-- the first token of the part at a place
pub token_there : (ps : List Part) (i : ℕ) (p : Part) → slice_get ps i ≡ Some p → get_or (map mnemonic_token ps) i 0 ≡ mnemonic_token p
token_there [] i p e = absurd cc
token_there (q ∷ ps) zero p e = let same : q ≡ p = cc in ap mnemonic_token same
token_there (q ∷ ps) (suc i) p e = token_there ps i p e
