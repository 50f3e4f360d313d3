-- Sums over lists of lists, and over items that are numbered.
use Rattle.std.proofs.Common.{◌≡◌, ap, refl, ℕ, ◌+◌, ◌*◌, ◌≤◌, List, [], ◌∷◌, map, length, arith}
use Rattle.std.specs.Prelude.{sum_by}
use Rattle.std.specs.List.{flat_map, enumerate_from}
use Rattle.std.proofs.lemmas.List.Sums.{sum_by-cons, sum_by-append}

pub sum_mapped : {X A : Type 0} (g : A → ℕ) (f : X → A) (xs : List X) → sum_by g (map f xs) ≡ sum_by (λ x. g (f x)) xs
sum_mapped g f [] = refl
sum_mapped g f (x ∷ xs) =
    let rest = sum_mapped g f xs in
    let left = sum_by-cons g (f x) (map f xs) in
    let right = sum_by-cons (λ y. g (f y)) x xs in
    omega arith

pub sum_flat : {X A : Type 0} (g : A → ℕ) (f : X → List A) (xs : List X) → sum_by g (flat_map f xs) ≡ sum_by (λ x. sum_by g (f x)) xs
sum_flat g f [] = refl
sum_flat g f (x ∷ xs) =
    let rest = sum_flat g f xs in
    let left = sum_by-append g (f x) (flat_map f xs) in
    let right = sum_by-cons (λ y. sum_by g (f y)) x xs in
    omega arith

pub sum_both : {X : Type 0} (f g : X → ℕ) (xs : List X) → sum_by f xs + sum_by g xs ≡ sum_by (λ x. f x + g x) xs
sum_both f g [] = refl
sum_both f g (x ∷ xs) =
    let rest = sum_both f g xs in
    let left = sum_by-cons f x xs in
    let then = sum_by-cons g x xs in
    let right = sum_by-cons (λ y. f y + g y) x xs in
    omega arith

pub sum_least : {X : Type 0} (f g : X → ℕ) → ((x : X) → f x ≤ g x) → (xs : List X) → sum_by f xs ≤ sum_by g xs
sum_least f g less [] = omega arith
sum_least f g less (x ∷ xs) =
    let rest = sum_least f g less xs in
    let one = less x in
    let left = sum_by-cons f x xs in
    let right = sum_by-cons g x xs in
    omega arith

-- so much for each item besides
pub sum_each : {X : Type 0} (f : X → ℕ) (n : ℕ) (xs : List X) → sum_by f xs + n * length xs ≡ sum_by (λ x. f x + n) xs
sum_each f n [] = omega arith
sum_each f n (x ∷ xs) =
    let rest = sum_each f n xs in
    let left = sum_by-cons f x xs in
    let right = sum_by-cons (λ y. f y + n) x xs in
    omega arith

pub sum_same : {X : Type 0} (n : ℕ) (xs : List X) → n * length xs ≡ sum_by (λ x. n) xs
sum_same n [] = omega arith
sum_same n (x ∷ xs) =
    let rest = sum_same n xs in
    let right = sum_by-cons (λ y. n) x xs in
    omega arith

pub sum_scaled : {X : Type 0} (f : X → ℕ) (n : ℕ) (xs : List X) → n * sum_by f xs ≡ sum_by (λ x. n * f x) xs
sum_scaled f n [] = omega arith
sum_scaled f n (x ∷ xs) =
    let rest = sum_scaled f n xs in
    let left = sum_by-cons f x xs in
    let right = sum_by-cons (λ y. n * f y) x xs in
    let spread = ap (λ m. n * m) left in
    omega arith

-- what numbered items bring
pub sum_numbered : {X A : Type 0} (g : A → ℕ) (f : ℕ × X → List A) (h : X → ℕ) → ((n : ℕ) (x : X) → sum_by g (f (n, x)) ≤ h x) → (n : ℕ) (xs : List X)
    → sum_by g (flat_map f (enumerate_from n xs)) ≤ sum_by h xs
sum_numbered g f h less n [] = omega arith
sum_numbered g f h less n (x ∷ xs) =
    let rest = sum_numbered g f h less (n + 1) xs in
    let one = less n x in
    let left = sum_by-append g (f (n, x)) (flat_map f (enumerate_from (n + 1) xs)) in
    let right = sum_by-cons h x xs in
    omega arith

pub sum_counted : {X : Type 0} (g : X → ℕ) (n : ℕ) (xs : List X) → sum_by (λ e. g e.1) (enumerate_from n xs) ≡ sum_by g xs
sum_counted g n [] = refl
sum_counted g n (x ∷ xs) =
    let rest = sum_counted g (n + 1) xs in
    let left = sum_by-cons (λ e. g e.1) (n, x) (enumerate_from (n + 1) xs) in
    let right = sum_by-cons g x xs in
    omega arith

-- ---- several sums at a time

module _ {X : Type 0} where
  abbrev pub total : List (X → ℕ) → X → ℕ
  total [] x = 0
  total (f ∷ fs) x = f x + total fs x

  abbrev pub totals : List (X → ℕ) → List X → ℕ
  totals [] xs = 0
  totals (f ∷ fs) xs = sum_by f xs + totals fs xs

  totals_same : (fs : List (X → ℕ)) (xs : List X) → totals fs xs ≡ sum_by (total fs) xs
  totals_same [] xs = let none = sum_same 0 xs in omega arith
  totals_same (f ∷ fs) xs =
      let rest = totals_same fs xs in
      let both = sum_both f (total fs) xs in
      omega arith

  -- they are no more than that of what is no less item by item
  pub totals_least : (fs : List (X → ℕ)) (g : X → ℕ) → ((x : X) → total fs x ≤ g x) → (xs : List X) → totals fs xs ≤ sum_by g xs
  totals_least fs g less xs =
      let same = totals_same fs xs in
      let all = sum_least (total fs) g less xs in
      omega arith
