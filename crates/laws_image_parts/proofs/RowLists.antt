-- Rows counted from a number on, beside the items that they are of.
use Rattle.std.proofs.Common.{◌≡◌, ap, refl, ◌∙◌, subst, ℕ, zero, suc, ◌+◌, Bool, true, false, cond, List, [], ◌∷◌, ◌++◌, length, Some, arith}
use Rattle.std.specs.Prelude.{slice_get, filter}
use Rattle.std.specs.List.{AllZip, range_with_len}
use Rattle.laws_image_parts.specs.AtRows.{AtEach}

-- ---- each item with its row

pub zip_each : {X : Type 0} (P : ℕ → X → Type 0) (first : ℕ) (xs : List X) → AtEach P first xs → AllZip P (range_with_len first (length xs)) xs
zip_each P first [] h = tt
zip_each P first (x ∷ xs) h =
    let here : first + 0 ≡ first = omega arith in (
      subst (λ n. P n x) here (h 0 x refl),
      zip_each P (first + 1) xs (λ k y at. let e : first + suc k ≡ first + 1 + k = omega arith in subst (λ n. P n y) e (h (suc k) y at)),
    )

pub each_zip : {X : Type 0} (P : ℕ → X → Type 0) (first : ℕ) (xs : List X) → AllZip P (range_with_len first (length xs)) xs → AtEach P first xs
each_zip P first [] p k x at = absurd cc
each_zip P first (y ∷ xs) p zero x at =
    let e : y ≡ x = cc in
    let here : first ≡ first + 0 = omega arith in
    subst (λ n. P n x) here (subst (P first) e p.0)
each_zip P first (y ∷ xs) p (suc k) x at =
    let e : first + 1 + k ≡ first + suc k = omega arith in
    subst (λ n. P n x) e (each_zip P (first + 1) xs p.1 k x at)

-- ---- runs

pub range_split : (first m n : ℕ) → range_with_len first (m + n) ≡ range_with_len first m ++ range_with_len (first + m) n
range_split first zero n =
    let e : first ≡ first + 0 = omega arith in
    let all : 0 + n ≡ n = omega arith in
    ap (range_with_len first) all ∙ ap (λ x. range_with_len x n) e
range_split first (suc m) n =
    let all : suc m + n ≡ suc (m + n) = omega arith in
    let e : first + 1 + m ≡ first + suc m = omega arith in
    ap (range_with_len first) all ∙ ap (λ xs. first ∷ xs) (range_split (first + 1) m n ∙ ap (λ x. range_with_len (first + 1) m ++ range_with_len x n) e)

get_front : {X : Type 0} (xs ys : List X) (k : ℕ) (x : X) → slice_get xs k ≡ Some x → slice_get (xs ++ ys) k ≡ Some x
get_front [] ys k x at = absurd cc
get_front (z ∷ xs) ys zero x at = at
get_front (z ∷ xs) ys (suc k) x at = get_front xs ys k x at

get_back : {X : Type 0} (xs ys : List X) (k : ℕ) → slice_get (xs ++ ys) (length xs + k) ≡ slice_get ys k
get_back [] ys k = let e : 0 + k ≡ k = omega arith in ap (slice_get ys) e
get_back (z ∷ xs) ys k = let e : suc (length xs) + k ≡ suc (length xs + k) = omega arith in ap (slice_get (z ∷ xs ++ ys)) e ∙ get_back xs ys k

-- the front, and what stands behind it
pub each_front : {X : Type 0} (P : ℕ → X → Type 0) (first : ℕ) (xs ys : List X) → AtEach P first (xs ++ ys) → AtEach P first xs
each_front P first xs ys h k x at = h k x (get_front xs ys k x at)

pub each_back : {X : Type 0} (P : ℕ → X → Type 0) (first : ℕ) (xs ys : List X) → AtEach P first (xs ++ ys) → AtEach P (first + length xs) ys
each_back P first xs ys h k x at =
    let e : first + (length xs + k) ≡ first + length xs + k = omega arith in
    subst (λ n. P n x) e (h (length xs + k) x (get_back xs ys k ∙ at))

-- ---- rows by a test

-- items that pass a test, and their rows, which pass a test with them
pub zip_filter : {X Y : Type 0} (P : X → Y → Type 0) (f : X → Bool) (g : Y → Bool) (xs : List X) (ys : List Y)
    → ((x : X) (y : Y) → P x y → f x ≡ g y) → AllZip P xs ys → AllZip P (filter f xs) (filter g ys)
zip_filter P f g [] [] same p = tt
zip_filter P f g [] (y ∷ ys) same p = absurd p
zip_filter P f g (x ∷ xs) [] same p = absurd p
zip_filter P f g (x ∷ xs) (y ∷ ys) same p = by_test (f x) (g y) (same x y p.0) (zip_filter P f g xs ys same p.1)
  where
    by_test : (b c : Bool) → b ≡ c → AllZip P (filter f xs) (filter g ys) → AllZip P (cond b (x ∷ filter f xs) (filter f xs)) (cond c (y ∷ filter g ys) (filter g ys))
    by_test true true e rest = (p.0, rest)
    by_test true false e rest = absurd cc
    by_test false true e rest = absurd cc
    by_test false false e rest = rest
