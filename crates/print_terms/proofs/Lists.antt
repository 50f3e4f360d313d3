-- Lists by their first item and the others.
use Rattle.std.proofs.Common.{◌≡◌, ℕ, zero, suc, ◌-◌, ◌≤◌, min, List, [], ◌∷◌, length, take, drop, get_or, map, refl, ap, sym, ◌∙◌, arith}
use Rattle.std.proofs.Math.Seq.{take-length}

rest_all : {X : Type 0} (x : X) (xs : List X) → take (length (x ∷ xs) - 1) xs ≡ xs
rest_all x xs = ap (λ n. take n xs) {x = length (x ∷ xs) - 1} {y = length xs} (omega arith) ∙ take-length xs

pub cons_is : {X : Type 0} (xs : List X) (d : X) → 1 ≤ length xs → xs ≡ get_or xs 0 d ∷ take (length xs - 1) (drop 1 xs)
cons_is [] d h = absurd (omega arith)
cons_is (x ∷ xs) d h = ap (λ ys. x ∷ ys) (sym (rest_all x xs))

pub take_map : {X Y : Type 0} (f : X → Y) (k : ℕ) (xs : List X) → take k (map f xs) ≡ map f (take k xs)
take_map f zero xs = refl
take_map f (suc k) [] = refl
take_map f (suc k) (x ∷ xs) = ap (λ ys. f x ∷ ys) (take_map f k xs)

pub drop_map : {X Y : Type 0} (f : X → Y) (k : ℕ) (xs : List X) → drop k (map f xs) ≡ map f (drop k xs)
drop_map f zero xs = refl
drop_map f (suc k) [] = refl
drop_map f (suc k) (x ∷ xs) = drop_map f k xs

pub take_within : {X : Type 0} (k n : ℕ) (xs : List X) → n ≡ min k (length xs) → take n xs ≡ take k xs
take_within zero n xs e = ap (λ m. take m xs) {x = n} {y = 0} (omega arith)
take_within (suc k) zero [] e = refl
take_within (suc k) (suc n) [] e = absurd (omega arith)
take_within (suc k) zero (x ∷ xs) e = absurd (omega arith)
take_within (suc k) (suc n) (x ∷ xs) e = ap (λ ys. x ∷ ys) (take_within k n xs (omega arith))

pub drop_within : {X : Type 0} (k n : ℕ) (xs : List X) → n ≡ min k (length xs) → drop n xs ≡ drop k xs
drop_within zero n xs e = ap (λ m. drop m xs) {x = n} {y = 0} (omega arith)
drop_within (suc k) zero [] e = refl
drop_within (suc k) (suc n) [] e = absurd (omega arith)
drop_within (suc k) zero (x ∷ xs) e = absurd (omega arith)
drop_within (suc k) (suc n) (x ∷ xs) e = drop_within k n xs (omega arith)
