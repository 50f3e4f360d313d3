-- Items of lists by their places.
use Rattle.std.proofs.Common.{◌≡◌, ◌∙◌, sym, ap, subst, refl, ℕ, zero, suc, ◌+◌, ◌&&◌, Bool, List, [], ◌∷◌, map, Some, IsTrue, arith}
use Rattle.std.specs.List.{slice_get, list_all, enumerate_from}

pub get_map : {X Y : Type 0} (f : X → Y) (xs : List X) (k : ℕ) (y : Y) → slice_get (map f xs) k ≡ Some y → (x : X) × (slice_get xs k ≡ Some x) × (f x ≡ y)
get_map f [] k y h = absurd cc
get_map f (x ∷ xs) zero y h = (x, refl, cc)
get_map f (x ∷ xs) (suc k) y h = get_map f xs k y h

pub map_get : {X Y : Type 0} (f : X → Y) (xs : List X) (k : ℕ) (x : X) → slice_get xs k ≡ Some x → slice_get (map f xs) k ≡ Some (f x)
map_get f [] k x h = absurd cc
map_get f (y ∷ xs) zero x h = let e : y ≡ x = cc in ap (λ z. Some (f z)) e
map_get f (y ∷ xs) (suc k) x h = map_get f xs k x h

-- what stands at a place of a list that is the same under `f`
pub get_same : {X Y : Type 0} (f : X → Y) (xs ys : List X) (k : ℕ) (x : X) → map f xs ≡ map f ys → slice_get xs k ≡ Some x →
    (y : X) × (slice_get ys k ≡ Some y) × (f y ≡ f x)
get_same f xs ys k x e h = get_map f ys k (f x) (ap (λ l. slice_get l k) (sym e) ∙ map_get f xs k x h)

and_first : (a b : Bool) → IsTrue (a && b) → IsTrue a
and_first a b h = grind arith

and_second : (a b : Bool) → IsTrue (a && b) → IsTrue b
and_second a b h = grind arith

and_both : (a b : Bool) → IsTrue a → IsTrue b → IsTrue (a && b)
and_both a b h j = grind arith

-- a test of each item with its place
pub test_at : {X : Type 0} (test : ℕ × X → Bool) (n : ℕ) (xs : List X) → IsTrue (list_all test (enumerate_from n xs)) →
    (k m : ℕ) (x : X) → m ≡ n + k → slice_get xs k ≡ Some x → IsTrue (test (m, x))
test_at test n [] h k m x e g = absurd cc
test_at test n (y ∷ xs) h zero m x e g =
    let i : n ≡ m = omega arith in
    let j : y ≡ x = cc in
    subst (λ z. IsTrue (test (m, z))) j (subst (λ z. IsTrue (test (z, y))) i (and_first (test (n, y)) (list_all test (enumerate_from (n + 1) xs)) h))
test_at test n (y ∷ xs) h (suc k) m x e g =
    let i : m ≡ n + 1 + k = omega arith in
    test_at test (n + 1) xs (and_second (test (n, y)) (list_all test (enumerate_from (n + 1) xs)) h) k m x i g

pub test_all : {X : Type 0} (test : ℕ × X → Bool) (n : ℕ) (xs : List X) →
    ((k m : ℕ) (x : X) → m ≡ n + k → slice_get xs k ≡ Some x → IsTrue (test (m, x))) → IsTrue (list_all test (enumerate_from n xs))
test_all test n [] h = refl
test_all test n (y ∷ xs) h =
    let first : n ≡ n + 0 = omega arith in
    and_both (test (n, y)) (list_all test (enumerate_from (n + 1) xs)) (h 0 n y first refl)
    (test_all test (n + 1) xs (λ k m x e g. let i : m ≡ n + suc k = omega arith in h (suc k) m x i g))

-- what a test can't tell apart by `f`
pub all_same : {X : Type 0} (f : X → X) (test : X → Bool) → ((x : X) → test (f x) ≡ test x) → (xs : List X) → list_all test (map f xs) ≡ list_all test xs
all_same f test h [] = refl
all_same f test h (x ∷ xs) = ap (λ b. b && list_all test (map f xs)) (h x) ∙ ap (λ b. test x && b) (all_same f test h xs)
