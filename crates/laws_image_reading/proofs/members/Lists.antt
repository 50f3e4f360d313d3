-- Rows beside what they hold.
use Rattle.std.proofs.Common.{◌≡◌, ap, refl, ℕ, zero, suc, ◌+◌, ◌≤◌, List, [], ◌∷◌, length, Option, Some, None, arith}
use Rattle.std.specs.Prelude.{slice_get}
use Rattle.std.specs.List.{AllByRecursion, AllZip, enumerate_from}
use Rattle.laws_image_parts.specs.ItemRows.{stated}

-- what follows of each item holds of each row
pub zip_left : {A B : Type 0} (R : A → B → Type 0) (Q : B → Type 0) (P : A → Type 0) → ((x : A) (y : B) → R x y → Q y → P x) → (xs : List A) (ys : List B)
    → AllZip R xs ys → AllByRecursion Q ys → AllByRecursion P xs
zip_left R Q P f [] [] h k = tt
zip_left R Q P f [] (y ∷ ys) h k = absurd h
zip_left R Q P f (x ∷ xs) [] h k = absurd h
zip_left R Q P f (x ∷ xs) (y ∷ ys) h k = (f x y h.0 k.0, zip_left R Q P f xs ys h.1 k.1)

pub zip_none : {A B : Type 0} (R : A → B → Type 0) (xs : List A) → AllZip R xs [] → xs ≡ []
zip_none R [] h = refl
zip_none R (x ∷ xs) h = absurd h

-- at most one is stated
pub stated_one : {X : Type 0} (o : Option X) → length (stated o) ≤ 1
stated_one None = omega arith
stated_one (Some x) = omega arith

-- numbered items, by their places
pub number_at : {X : Type 0} (n : ℕ) (xs : List X) (k : ℕ) (y : ℕ × X) → slice_get (enumerate_from n xs) k ≡ Some y → y.0 ≡ n + k
number_at n [] k y at = absurd cc
number_at {X} n (x ∷ xs) zero y at =
    let same : ◌≡◌ {A = ℕ × X} (n, x) y = cc in
    let first : n ≡ y.0 = ap (λ (z : ℕ × X). z.0) same in
    omega arith
number_at n (x ∷ xs) (suc k) y at = let rest = number_at (n + 1) xs k y at in omega arith

pub numbered_long : {X : Type 0} (n : ℕ) (xs : List X) → length (enumerate_from n xs) ≡ length xs
numbered_long n [] = refl
numbered_long n (x ∷ xs) = ap suc (numbered_long (n + 1) xs)
