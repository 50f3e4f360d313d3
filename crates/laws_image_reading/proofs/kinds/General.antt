-- Items of lists by their places, runs of rows, and items of which no two are the same.
use Rattle.std.proofs.Common.{◌≡◌, ap, refl, sym, ◌∙◌, subst, ℕ, zero, suc, ◌+◌, ◌-◌, ◌<◌, ◌≤◌, List, [], ◌∷◌, length, Option, Some, Contains, inl, inr, arith}
use Rattle.std.specs.Prelude.{slice_get, slice_index_or}
use Rattle.std.specs.List.{AllByRecursion, AllZip, flat_map, range_with_len}
use Rattle.std.proofs.lemmas.Bool.{cases_lt}
use Rattle.std.proofs.lemmas.List.{length-append}

-- ---- places

pub get_some : {X : Type 0} (xs : List X) (k : ℕ) → k < length xs → (x : X) × (slice_get xs k ≡ Some x)
get_some [] k low = absurd (omega arith)
get_some (x ∷ xs) zero low = (x, refl)
get_some (x ∷ xs) (suc k) low = get_some xs k (omega arith)

pub get_low : {X : Type 0} (xs : List X) (k : ℕ) (x : X) → slice_get xs k ≡ Some x → k < length xs
get_low [] k x at = absurd cc
get_low (y ∷ xs) zero x at = omega arith
get_low (y ∷ xs) (suc k) x at = let low = get_low xs k x at in omega arith

pub one_at : {X : Type 0} (o : Option X) (x y : X) → o ≡ Some x → o ≡ Some y → x ≡ y
one_at o x y h k = cc

-- what holds of all holds of each
pub all_at : {X : Type 0} (P : X → Type 0) (xs : List X) (k : ℕ) (x : X) → AllByRecursion P xs → slice_get xs k ≡ Some x → P x
all_at P [] k x p at = absurd cc
all_at P (y ∷ xs) zero x p at = let same : y ≡ x = cc in subst P same p.0
all_at P (y ∷ xs) (suc k) x p at = all_at P xs k x p.1 at

-- the place of what a list holds, and what stands at a place
pub place_of : (xs : List ℕ) (x : ℕ) → Contains xs x → (k : ℕ) × (slice_get xs k ≡ Some x)
place_of [] x h = absurd (let low = h.1 in omega arith)
place_of (y ∷ xs) x (zero, low, e) = (0, ap (λ (n : ℕ). Some n) e)
place_of (y ∷ xs) x (suc k, low, e) = let rest = place_of xs x (k, omega arith, e) in (suc rest.0, rest.1)

pub held_at : (xs : List ℕ) (k x : ℕ) → slice_get xs k ≡ Some x → Contains xs x
held_at xs k x at = (k, get_low xs k x at, is xs k at)
  where
    is : (ys : List ℕ) (j : ℕ) → slice_get ys j ≡ Some x → slice_index_or ys j x ≡ x
    is [] j e = absurd cc
    is (y ∷ ys) zero e = cc
    is (y ∷ ys) (suc j) e = is ys j e

-- what stands beside an item of the first list, and all that stands beside
pub beside : {A B : Type 0} (R : A → B → Type 0) (xs : List A) (ys : List B) (k : ℕ) (x : A) → AllZip R xs ys → slice_get xs k ≡ Some x
    → (y : B) × (slice_get ys k ≡ Some y) × R x y
beside R [] ys k x h at = absurd cc
beside R (a ∷ xs) [] k x h at = absurd h
beside R (a ∷ xs) (b ∷ ys) zero x h at = let same : a ≡ x = cc in (b, refl, subst (λ z. R z b) same h.0)
beside R (a ∷ xs) (b ∷ ys) (suc k) x h at = beside R xs ys k x h.1 at

pub zip_all : {A B : Type 0} (R : A → B → Type 0) (S : B → Type 0) (Q : A → Type 0) (xs : List A) (ys : List B) → ((x : A) (y : B) → R x y → S y → Q x) → AllZip R xs ys → AllByRecursion S ys
    → AllByRecursion Q xs
zip_all R S Q [] [] f h s = tt
zip_all R S Q [] (y ∷ ys) f h s = absurd h
zip_all R S Q (x ∷ xs) [] f h s = absurd h
zip_all R S Q (x ∷ xs) (y ∷ ys) f h s = (f x y h.0 s.0, zip_all R S Q xs ys f h.1 s.1)

pub zip_same : (xs ys : List ℕ) → AllZip (λ x y. x ≡ y) xs ys → xs ≡ ys
zip_same [] [] h = refl
zip_same [] (y ∷ ys) h = absurd h
zip_same (x ∷ xs) [] h = absurd h
zip_same (x ∷ xs) (y ∷ ys) h = let one = h.0 in let more = zip_same xs ys h.1 in λ i. one i ∷ more i

-- ---- ranges

pub range_long : (first n : ℕ) → length (range_with_len first n) ≡ n
range_long first zero = refl
range_long first (suc n) = ap suc (range_long (first + 1) n)

pub range_at : (first n k x : ℕ) → slice_get (range_with_len first n) k ≡ Some x → first + k ≡ x
range_at first zero k x at = absurd cc
range_at first (suc n) zero x at = let same : first ≡ x = cc in omega arith
range_at first (suc n) (suc k) x at = let rest = range_at (first + 1) n k x at in omega arith

range_get : (first n k : ℕ) → k < n → slice_get (range_with_len first n) k ≡ Some (first + k)
range_get first n k low =
    let long = range_long first n in
    let found = get_some (range_with_len first n) k (omega arith) in
    found.1 ∙ ap (λ (m : ℕ). Some m) (sym (range_at first n k found.0 found.1))

pub in_range : (first n row : ℕ) → first ≤ row → row < first + n → Contains (range_with_len first n) row
in_range first n row low high =
    let same : first + (row - first) ≡ row = omega arith in
    held_at (range_with_len first n) (row - first) row (range_get first n (row - first) (omega arith) ∙ ap (λ (m : ℕ). Some m) same)

-- ---- lists that follow one another

-- how many items stand before those of the list at a place
abbrev pub before : {X Y : Type 0} → (X → List Y) → List X → ℕ → ℕ
before of [] k = 0
before of (x ∷ xs) zero = 0
before of (x ∷ xs) (suc k) = length (of x) + before of xs k

-- where an item among all is
pub record InList {X Y : Type 0} (of : X → List Y) (xs : List X) (i : ℕ) : Type 0 where
  pub place : ℕ
  pub item : X
  pub at : slice_get xs place ≡ Some item
  pub low : before of xs place ≤ i
  pub high : i < before of xs place + length (of item)

pub find_list : {X Y : Type 0} (of : X → List Y) (xs : List X) (i : ℕ) → i < length (flat_map of xs) → InList of xs i
find_list of [] i low = absurd (omega arith)
find_list of (x ∷ xs) i low = elim (cases_lt i (length (of x))) [
  | inl here ↦ record { place = 0; item = x; at = refl; low = omega arith; high = omega arith }
  | inr there ↦
      let long = length-append (of x) (flat_map of xs) in
      let rest = find_list of xs (i - length (of x)) (omega arith) in
      let from = rest.low in
      let to = rest.high in
      record { place = suc rest.place; item = rest.item; at = rest.at; low = omega arith; high = omega arith }
]
