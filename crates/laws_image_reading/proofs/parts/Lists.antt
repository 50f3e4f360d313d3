-- Lists of parts beside their rows.
use Rattle.std.proofs.Common.{◌≡◌, ap, refl, sym, subst, ℕ, zero, suc, ◌+◌, ◌<◌, List, [], ◌∷◌, length, Some, Contains, arith}
use Rattle.std.specs.Prelude.{slice_get, slice_index_or}
use Rattle.std.specs.List.{AllByRecursion, AllZip, enumerate_from}
use Rattle.laws_image_parts.specs.AtRows.{AtEach, IsItem}

pub all_get : {X : Type 0} (P : X → Type 0) (xs : List X) (k : ℕ) (x : X) → AllByRecursion P xs → slice_get xs k ≡ Some x → P x
all_get P [] k x p at = absurd cc
all_get P (y ∷ xs) zero x p at = let same : y ≡ x = cc in subst P same p.0
all_get P (y ∷ xs) (suc k) x p at = all_get P xs k x p.1 at

-- ---- rows beside items that are known to be fine

module _ {X : Type 0} (P Q : ℕ → X → Type 0) (R : X → Type 0) (f : (k : ℕ) (x : X) → R x → P k x → Q k x) where
  pub zip_with : (rows : List ℕ) (xs : List X) → AllByRecursion R xs → AllZip P rows xs → AllZip Q rows xs
  zip_with [] [] all p = tt
  zip_with [] (x ∷ xs) all p = absurd p
  zip_with (k ∷ rows) [] all p = absurd p
  zip_with (k ∷ rows) (x ∷ xs) all p = (f k x all.0 p.0, zip_with rows xs all.1 p.1)

  pub each_with : (first : ℕ) (xs : List X) → AllByRecursion R xs → AtEach P first xs → AtEach Q first xs
  each_with first xs all h k x at = f (first + k) x (all_get R xs k x all at) (h k x at)

-- with their numbers
module _ {X : Type 0} (P : ℕ → ℕ × X → Type 0) (Q : ℕ → X → Type 0) (R : X → Type 0) (f : (k n : ℕ) (x : X) → R x → P k (n, x) → Q k x) where
  pub zip_numbered : (n : ℕ) (rows : List ℕ) (xs : List X) → AllByRecursion R xs → AllZip P rows (enumerate_from n xs) → AllZip Q rows xs
  zip_numbered n [] [] all p = tt
  zip_numbered n [] (x ∷ xs) all p = absurd p
  zip_numbered n (k ∷ rows) [] all p = absurd p
  zip_numbered n (k ∷ rows) (x ∷ xs) all p = (f k n x all.0 p.0, zip_numbered (n + 1) rows xs all.1 p.1)

-- ---- items by their rows

pub at_item : {X : Type 0} (P : ℕ → X → Type 0) (xs : List X) (row : ℕ) (x : X) → AtEach P 1 xs → IsItem xs row x → P row x
at_item P xs row x h item = subst (λ n. P n x) (sym item.1) (h item.0 x item.2)

pub zip_items : {X : Type 0} (P : ℕ → X → Type 0) (xs : List X) → AtEach P 1 xs → (rows : List ℕ) (ys : List X) → AllZip (IsItem xs) rows ys → AllZip P rows ys
zip_items P xs h [] [] p = tt
zip_items P xs h [] (y ∷ ys) p = absurd p
zip_items P xs h (k ∷ rows) [] p = absurd p
zip_items P xs h (k ∷ rows) (y ∷ ys) p = (at_item P xs k y h p.0, zip_items P xs h rows ys p.1)

-- ---- what a list contains

pub contains_at : {X : Type 0} (xs : List X) (k : ℕ) (x : X) → slice_get xs k ≡ Some x → Contains xs x
contains_at [] k x at = absurd cc
contains_at (y ∷ xs) zero x at = let same : y ≡ x = cc in (0, omega arith, same)
contains_at (y ∷ xs) (suc k) x at = let c = contains_at xs k x at in let low = c.1 in (suc c.0, omega arith, c.2)

at_place : {X : Type 0} (xs : List X) (k : ℕ) (x : X) → k < length xs → slice_index_or xs k x ≡ x → slice_get xs k ≡ Some x
at_place [] k x low e = absurd (omega arith)
at_place (y ∷ xs) zero x low e = ap Some e
at_place (y ∷ xs) (suc k) x low e = at_place xs k x (omega arith) e

pub place_of : {X : Type 0} (xs : List X) (x : X) → Contains xs x → (k : ℕ) × (slice_get xs k ≡ Some x)
place_of xs x c = (c.0, at_place xs c.0 x c.1 c.2)

-- what stands beside an item of the first list, and of the second
pub zip_right : {A B : Type 0} (R : A → B → Type 0) (xs : List A) (ys : List B) (k : ℕ) (x : A) → AllZip R xs ys → slice_get xs k ≡ Some x
    → (y : B) × (slice_get ys k ≡ Some y) × R x y
zip_right R [] ys k x h at = absurd cc
zip_right R (a ∷ xs) [] k x h at = absurd h
zip_right R (a ∷ xs) (b ∷ ys) zero x h at = let same : a ≡ x = cc in (b, refl, subst (λ z. R z b) same h.0)
zip_right R (a ∷ xs) (b ∷ ys) (suc k) x h at = zip_right R xs ys k x h.1 at

pub zip_left : {A B : Type 0} (R : A → B → Type 0) (xs : List A) (ys : List B) (k : ℕ) (y : B) → AllZip R xs ys → slice_get ys k ≡ Some y
    → (x : A) × (slice_get xs k ≡ Some x) × R x y
zip_left R [] [] k y h at = absurd cc
zip_left R [] (b ∷ ys) k y h at = absurd h
zip_left R (a ∷ xs) [] k y h at = absurd h
zip_left R (a ∷ xs) (b ∷ ys) zero y h at = let same : b ≡ y = cc in (a, refl, subst (R a) same h.0)
zip_left R (a ∷ xs) (b ∷ ys) (suc k) y h at = zip_left R xs ys k y h.1 at
