-- Numbers digit by digit.
use Rattle.std.proofs.Common.{◌≡◌, ℕ, ◌+◌, ◌*◌, ◌<◌, ◌≤◌, ◌%◌, ◌^◌, List, [], ◌∷◌, length, drop, take, get_or, ap, sym, ◌∙◌, arith, take-append-drop}
use Rattle.std.proofs.Math.Nat.{mul-le-mul_left, mod-add-mod, mod-eq_of_lt}
use Rattle.std.proofs.lemmas.Nat.{mul-mod_first}
use Rattle.std.specs.List.{fold}
use Rattle.std.proofs.lemmas.List.Sums.{fold_more, fold-append}
use Rattle.source_model.specs.Values.{digit_value, number_by}

abbrev pub step : ℕ → ℕ → ℕ → ℕ
step base value digit = value * base + digit_value digit

pub number_by-more : (base : ℕ) (xs : List ℕ) (i : ℕ) → i < length xs → number_by base (take (i + 1) xs) ≡ number_by base (take i xs) * base + digit_value (get_or xs i 0)
number_by-more base xs i less = fold_more (step base) 0 xs i 0 less

one_more : (a base d : ℕ) → 0 < base → a ≤ a * base + d
one_more a base d some = let l : a * 1 ≤ a * base = mul-le-mul_left a some in omega arith

-- digits behind a number don't make it less
grows : (base : ℕ) → 0 < base → (a : ℕ) (ds : List ℕ) → a ≤ fold (step base) a ds
grows base some a [] = omega arith
grows base some a (d ∷ ds) =
    let one : a ≤ a * base + digit_value d = one_more a base (digit_value d) some in
    let more : a * base + digit_value d ≤ fold (step base) (a * base + digit_value d) ds = grows base some (a * base + digit_value d) ds in
    omega arith

front_below : (base : ℕ) → 0 < base → (ds : List ℕ) (k : ℕ) → number_by base (take k ds) ≤ number_by base ds
front_below base some ds k =
    let e : number_by base ds ≡ fold (step base) (number_by base (take k ds)) (drop k ds) =
    ap (number_by base) (sym (take-append-drop k ds)) ∙ fold-append (step base) 0 (take k ds) (drop k ds) in
    let g : number_by base (take k ds) ≤ fold (step base) (number_by base (take k ds)) (drop k ds) = grows base some (number_by base (take k ds)) (drop k ds) in
    omega arith

-- what the digits so far spell with one more is no more than what all spell
pub too_great : (base limit : ℕ) → 0 < base → (ds : List ℕ) (k : ℕ) → k < length ds → limit ≤ number_by base (take k ds) * base + digit_value (get_or ds k 0)
    → limit ≤ number_by base ds
too_great base limit some ds k less h =
    let e : number_by base (take (k + 1) ds) ≡ number_by base (take k ds) * base + digit_value (get_or ds k 0) = number_by-more base ds k less in
    let b : number_by base (take (k + 1) ds) ≤ number_by base ds = front_below base some ds (k + 1) in
    omega arith

-- ---- modulo a width

pub wrapped_more : (m base d n : ℕ) → (m % n * base % n + d) % n ≡ (m * base + d) % n
wrapped_more m base d n = ap (λ t. (t + d) % n) (mul-mod_first m base n) ∙ mod-add-mod (m * base) n d

-- a number of 32 bits is its own rest modulo 2^64
pub small_rest : (n : ℕ) → n < 2 ^ 32 → n % 2 ^ 64 ≡ n
small_rest n less = mod-eq_of_lt (omega (arith, less))
