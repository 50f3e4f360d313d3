-- Items of lists beside their places.
use Rattle.std.proofs.Common.{◌≡◌, refl, subst, ℕ, zero, suc, ◌+◌, ◌<◌, List, [], ◌∷◌, ◌++◌, map, length, Option, Some, arith}
use Rattle.std.specs.Prelude.{slice_get}
use Rattle.std.specs.List.{AllByRecursion, AllZip}
use Rattle.laws_image_parts.specs.AtRows.{AtEach}

pub all_get : {X : Type 0} (P : X → Type 0) (xs : List X) (k : ℕ) (x : X) → AllByRecursion P xs → slice_get xs k ≡ Some x → P x
all_get P [] k x p at = absurd cc
all_get P (y ∷ xs) zero x p at = let same : y ≡ x = cc in subst P same p.0
all_get P (y ∷ xs) (suc k) x p at = all_get P xs k x p.1 at

pub get_some : {X : Type 0} (xs : List X) (k : ℕ) → k < length xs → (x : X) × (slice_get xs k ≡ Some x)
get_some [] k low = absurd (omega arith)
get_some (x ∷ xs) zero low = (x, refl)
get_some (x ∷ xs) (suc k) low = get_some xs k (omega arith)

-- what stands beside an item of the first list
pub zip_beside : {A B : Type 0} (R : A → B → Type 0) (xs : List A) (ys : List B) (k : ℕ) (x : A) → AllZip R xs ys → slice_get xs k ≡ Some x
    → (y : B) × (slice_get ys k ≡ Some y) × R x y
zip_beside R [] ys k x h at = absurd cc
zip_beside R (a ∷ xs) [] k x h at = absurd h
zip_beside R (a ∷ xs) (b ∷ ys) zero x h at = let same : a ≡ x = cc in (b, refl, subst (λ z. R z b) same h.0)
zip_beside R (a ∷ xs) (b ∷ ys) (suc k) x h at = zip_beside R xs ys k x h.1 at

pub some_one : {X : Type 0} (o : Option X) (x y : X) → o ≡ Some x → o ≡ Some y → x ≡ y
some_one o x y h k = cc

-- ---- something at each row

pub each_one : {X : Type 0} (P : ℕ → X → Type 0) (first : ℕ) (x : X) (xs : List X) → P first x → AtEach P (first + 1) xs → AtEach P first (x ∷ xs)
each_one P first x xs h hs zero y at =
    let same : x ≡ y = cc in
    let row : first ≡ first + 0 = omega arith in
    subst (λ n. P n y) row (subst (P first) same h)
each_one P first x xs h hs (suc k) y at =
    let row : first + 1 + k ≡ first + suc k = omega arith in
    subst (λ n. P n y) row (hs k y at)

pub each_both : {X : Type 0} (P : ℕ → X → Type 0) (first : ℕ) (xs ys : List X) → AtEach P first xs → AtEach P (first + length xs) ys → AtEach P first (xs ++ ys)
each_both P first [] ys h k =
    λ j y at.
    let row : first + 0 + j ≡ first + j = omega arith in
    subst (λ n. P n y) row (k j y at)
each_both P first (x ∷ xs) ys h k =
    let own : P first x = (let row : first + 0 ≡ first = omega arith in subst (λ n. P n x) row (h 0 x refl)) in
    let rest : AtEach P (first + 1) xs = (λ j y at. let row : first + suc j ≡ first + 1 + j = omega arith in subst (λ n. P n y) row (h (suc j) y at)) in
    let later : first + length (x ∷ xs) ≡ first + 1 + length xs = omega arith in
    each_one P first x (xs ++ ys) own (each_both P (first + 1) xs ys rest (subst (λ n. AtEach P n ys) later k))

pub each_map : {X Y : Type 0} (P : ℕ → Y → Type 0) (f : X → Y) (first : ℕ) (xs : List X) → AtEach (λ row x. P row (f x)) first xs → AtEach P first (map f xs)
each_map P f first [] h = λ k y at. absurd cc
each_map P f first (x ∷ xs) h =
    let own : P first (f x) = (let row : first + 0 ≡ first = omega arith in subst (λ n. P n (f x)) row (h 0 x refl)) in
    each_one P first (f x) (map f xs) own
    (each_map P f (first + 1) xs (λ j y at. let row : first + suc j ≡ first + 1 + j = omega arith in subst (λ n. P n (f y)) row (h (suc j) y at)))
