-- Lists by their places, and what stands beside their items.
use Rattle.std.proofs.Common.{◌≡◌, ap, refl, sym, ◌∙◌, subst, ℕ, zero, suc, ◌+◌, ◌<◌, List, [], ◌∷◌, ◌++◌, map, length, Some, inl, inr, arith}
use Rattle.std.specs.Prelude.{◌⊎◌, Contains, slice_get, slice_index, slice_index_or}
use Rattle.std.specs.List.{AllByRecursion, AllZip, range_with_len}
use Rattle.std.proofs.lemmas.Bool.{cases_eq}

pub get_at : {X : Type 0} (xs : List X) (k : ℕ) (x d : X) → slice_get xs k ≡ Some x → slice_index_or xs k d ≡ x
get_at [] k x d at = absurd cc
get_at (y ∷ xs) zero x d at = cc
get_at (y ∷ xs) (suc k) x d at = get_at xs k x d at

pub get_some : {X : Type 0} (xs : List X) (k : ℕ) → k < length xs → (x : X) × (slice_get xs k ≡ Some x)
get_some [] k low = absurd (omega arith)
get_some (x ∷ xs) zero low = (x, refl)
get_some (x ∷ xs) (suc k) low = get_some xs k (omega arith)

pub get_mapped : {X Y : Type 0} (f : X → Y) (xs : List X) (k : ℕ) (x : X) → slice_get xs k ≡ Some x → slice_get (map f xs) k ≡ Some (f x)
get_mapped f [] k x at = absurd cc
get_mapped f (y ∷ xs) zero x at = let same : y ≡ x = cc in ap (λ z. Some (f z)) same
get_mapped f (y ∷ xs) (suc k) x at = get_mapped f xs k x at

-- a list is made of its items
pub map_places : (f : ℕ → ℕ) (first : ℕ) (xs : List ℕ) → ((k : ℕ) → k < length xs → f (first + k) ≡ slice_index xs k) → map f (range_with_len first (length xs)) ≡ xs
map_places f first [] h = refl
map_places f first (x ∷ xs) h =
    let here : first ≡ first + 0 = omega arith in
    let head : f first ≡ x = ap f here ∙ h 0 (omega arith) in
    let rest = map_places f (first + 1) xs (λ k low. let e : first + 1 + k ≡ first + suc k = omega arith in ap f e ∙ h (suc k) (omega arith)) in
    ap (λ (y : ℕ). y ∷ map f (range_with_len (first + 1) (length xs))) head ∙ ap (λ (ys : List ℕ). x ∷ ys) rest

-- ---- something that holds of each item

pub all_get : {X : Type 0} (P : X → Type 0) (xs : List X) (k : ℕ) (d : X) → AllByRecursion P xs → k < length xs → P (slice_index_or xs k d)
all_get P [] k d all h = absurd (omega arith)
all_get P (x ∷ xs) zero d all h = all.0
all_get P (x ∷ xs) (suc k) d all h = all_get P xs k d all.1 (omega arith)

pub all_mapped : {X Y : Type 0} (P : Y → Type 0) (f : X → Y) (xs : List X) → ((k : ℕ) (x : X) → slice_get xs k ≡ Some x → P (f x)) → AllByRecursion P (map f xs)
all_mapped P f [] h = tt
all_mapped P f (x ∷ xs) h = (h 0 x refl, all_mapped P f xs (λ k y at. h (suc k) y at))

pub all_joined : {X : Type 0} (P : X → Type 0) (xs ys : List X) → AllByRecursion P xs → AllByRecursion P ys → AllByRecursion P (xs ++ ys)
all_joined P [] ys p q = q
all_joined P (x ∷ xs) ys p q = (p.0, all_joined P xs ys p.1 q)

pub zip_all : {A B : Type 0} (R : A → B → Type 0) (Q : A → Type 0) (xs : List A) (ys : List B) → ((x : A) (y : B) → R x y → Q x) → AllZip R xs ys → AllByRecursion Q xs
zip_all R Q [] [] f h = tt
zip_all R Q [] (y ∷ ys) f h = absurd h
zip_all R Q (x ∷ xs) [] f h = absurd h
zip_all R Q (x ∷ xs) (y ∷ ys) f h = (f x y h.0, zip_all R Q xs ys f h.1)

-- ---- one of a list, or none

after : (y t : ℕ) (xs : List ℕ) → (t ≡ y → ⊥) → (Contains xs t → ⊥) → Contains (y ∷ xs) t → ⊥
after y t xs other lacks (zero, less, e) = other (sym e)
after y t xs other lacks (suc k, less, e) = lacks (k, omega arith, e)

pub listed : (P : ℕ → Type 0) (xs : List ℕ) (t : ℕ) → AllByRecursion P xs → P t ⊎ (Contains xs t → ⊥)
listed P [] t all = inr (λ c. absurd (omega (arith, c.1)))
listed P (x ∷ xs) t all = elim (cases_eq t x) [
  | inl e ↦ inl (subst P (sym e) all.0)
  | inr other ↦ elim (listed P xs t all.1) [ inl p ↦ inl p | inr lacks ↦ inr (after x t xs other lacks) ]
]
