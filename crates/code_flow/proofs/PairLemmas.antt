-- What holds of each member of a list with each later one, and members of lists that are mapped or chosen.
use Rattle.std.proofs.Common.{◌≡◌, inl, inr, ℕ, zero, suc, ◌+◌, ◌<◌, Bool, true, false, List, [], ◌∷◌, ◌++◌, map, length, refl, ◌∙◌, ap, subst, Some, arith}
use Rattle.std.specs.Prelude.{slice_get, slice_index_or, if◌then◌else◌}
use Rattle.std.specs.List.{Contains}
use Rattle.std.proofs.lemmas.Bool.{cases_lt}
use Rattle.code_flow.proofs.Members.{Every, here, there, either, none, every_append}

abbrev pub Pairs : {X : Type 0} → (X → X → Type 0) → List X → Type 0
Pairs R [] = Unit {0}
Pairs R (x ∷ xs) = Every (R x) xs × Pairs R xs

at_every : {X : Type 0} (P : X → Type 0) (xs : List X) (j : ℕ) (d : X) → Every P xs → j < length xs → P (slice_index_or xs j d)
at_every P [] j d h less = absurd (omega arith)
at_every P (x ∷ xs) zero d h less = h.0
at_every P (x ∷ xs) (suc j) d h less = at_every P xs j d h.1 (omega arith)

every_of : {X : Type 0} (P : X → Type 0) (xs : List X) → ((j : ℕ) (d : X) → j < length xs → P (slice_index_or xs j d)) → Every P xs
every_of P [] h = tt
every_of P (x ∷ xs) h = (h zero x (omega arith), every_of P xs (λ j d less. h (suc j) d (omega arith)))

pub all_pairs : {X : Type 0} (R : X → X → Type 0) (xs : List X) → Pairs R xs → (i j : ℕ) (d : X) → i < j → j < length xs → R (slice_index_or xs i d) (slice_index_or xs j d)
all_pairs R [] h i j d less below = absurd (omega arith)
all_pairs R (x ∷ xs) h i zero d less below = absurd (omega arith)
all_pairs R (x ∷ xs) h zero (suc j) d less below = at_every (R x) xs j d h.0 (omega arith)
all_pairs R (x ∷ xs) h (suc i) (suc j) d less below = all_pairs R xs h.1 i j d (omega arith) (omega arith)

pub pairs_of : {X : Type 0} (R : X → X → Type 0) (xs : List X) → ((i j : ℕ) (d : X) → i < j → j < length xs → R (slice_index_or xs i d) (slice_index_or xs j d)) → Pairs R xs
pairs_of R [] h = tt
pairs_of R (x ∷ xs) h =
    (every_of (R x) xs (λ j d less. h zero (suc j) d (omega arith) (omega arith)), pairs_of R xs (λ i j d less below. h (suc i) (suc j) d (omega arith) (omega arith)))

pub pairs_append : {X : Type 0} (R : X → X → Type 0) (xs ys : List X) → Pairs R xs → Pairs R ys → Every (λ x. Every (R x) ys) xs → Pairs R (xs ++ ys)
pairs_append R [] ys a b c = b
pairs_append R (x ∷ xs) ys a b c = (every_append (R x) xs ys a.0 c.0, pairs_append R xs ys a.1 b c.1)

pub every_mapped : {X Y : Type 0} (P : Y → Type 0) (h : X → Y) (xs : List X) → Every (λ x. P (h x)) xs → Every P (map h xs)
every_mapped P h [] e = tt
every_mapped P h (x ∷ xs) e = (e.0, every_mapped P h xs e.1)

pub pairs_mapped : {X Y : Type 0} (R : Y → Y → Type 0) (h : X → Y) (xs : List X) → Pairs (λ x y. R (h x) (h y)) xs → Pairs R (map h xs)
pairs_mapped R h [] p = tt
pairs_mapped R h (x ∷ xs) p = (every_mapped (R (h x)) h xs p.0, pairs_mapped R h xs p.1)

every_weak : {X : Type 0} (P Q : X → Type 0) (xs : List X) → ((x : X) → P x → Q x) → Every P xs → Every Q xs
every_weak P Q [] f h = tt
every_weak P Q (x ∷ xs) f h = (f x h.0, every_weak P Q xs f h.1)

pub pairs_weak : {X : Type 0} (R S : X → X → Type 0) (xs : List X) → ((x y : X) → R x y → S x y) → Pairs R xs → Pairs S xs
pairs_weak R S [] f p = tt
pairs_weak R S (x ∷ xs) f p = (every_weak (R x) (S x) xs (f x) p.0, pairs_weak R S xs f p.1)

-- where it holds by the second alone, or by the first
pub cross_second : {X : Type 0} (R : X → X → Type 0) (P : X → Type 0) (xs ys : List X) → ((x y : X) → P y → R x y) → Every P ys → Every (λ x. Every (R x) ys) xs
cross_second R P [] ys f h = tt
cross_second R P (x ∷ xs) ys f h = (every_weak P (R x) ys (f x) h, cross_second R P xs ys f h)

pub pairs_second : {X : Type 0} (R : X → X → Type 0) (P : X → Type 0) (xs : List X) → ((x y : X) → P y → R x y) → Every P xs → Pairs R xs
pairs_second R P [] f h = tt
pairs_second R P (x ∷ xs) f h = (every_weak P (R x) xs (f x) h.1, pairs_second R P xs f h.1)

every_all : {X : Type 0} (P : X → Type 0) (xs : List X) → ((x : X) → P x) → Every P xs
every_all P [] f = tt
every_all P (x ∷ xs) f = (f x, every_all P xs f)

pub cross_first : {X : Type 0} (R : X → X → Type 0) (P : X → Type 0) (xs ys : List X) → ((x y : X) → P x → R x y) → Every P xs → Every (λ x. Every (R x) ys) xs
cross_first R P [] ys f h = tt
cross_first R P (x ∷ xs) ys f h = (every_all (R x) ys (λ y. f x y h.0), cross_first R P xs ys f h.1)

pub pairs_first : {X : Type 0} (R : X → X → Type 0) (P : X → Type 0) (xs : List X) → ((x y : X) → P x → R x y) → Every P xs → Pairs R xs
pairs_first R P [] f h = tt
pairs_first R P (x ∷ xs) f h = (every_all (R x) xs (λ y. f x y h.0), pairs_first R P xs f h.1)

-- ---- members

pub in_if : {X : Type 0} (b : Bool) (xs : List X) (y : X) → Contains (if b then xs else []) y → (b ≡ true) × Contains xs y
in_if true xs y h = (refl, h)
in_if false xs y h = absurd (none y h)

pub if_in : {X : Type 0} (b : Bool) (xs : List X) (y : X) → b ≡ true → Contains xs y → Contains (if b then xs else []) y
if_in true xs y e h = h
if_in false xs y e h = absurd (let z : ⊥ = cc in z)

pub pairs_if : {X : Type 0} (R : X → X → Type 0) (b : Bool) (xs : List X) → Pairs R xs → Pairs R (if b then xs else [])
pairs_if R true xs h = h
pairs_if R false xs h = tt

pub of_map : {X Y : Type 0} (h : X → Y) (xs : List X) (y : Y) → Contains (map h xs) y → (x : X) × Contains xs x × (h x ≡ y)
of_map h [] y c = absurd (none y c)
of_map h (x ∷ xs) y c = elim (either (h x) (map h xs) y c) [
  | inl e ↦ (x, here x xs, e)
  | inr more ↦ let m = of_map h xs y more in (m.0, there x xs m.0 m.1, m.2)
]

pub in_map : {X Y : Type 0} (h : X → Y) (xs : List X) (x : X) → Contains xs x → Contains (map h xs) (h x)
in_map h [] x c = absurd (none x c)
in_map h (y ∷ ys) x c = elim (either y ys x c) [
  | inl e ↦ subst (λ z. Contains (h y ∷ map h ys) (h z)) e (here (h y) (map h ys))
  | inr more ↦ there (h y) (map h ys) (h x) (in_map h ys x more)
]

-- ---- items by their places

pub item_at : {X : Type 0} (xs : List X) (k : ℕ) → k < length xs → (x : X) × (slice_get xs k ≡ Some x)
item_at [] k h = absurd (omega arith)
item_at (x ∷ xs) zero h = (x, refl)
item_at (x ∷ xs) (suc k) h = item_at xs k (omega arith)

pub one_item : {X : Type 0} (xs : List X) (i j : ℕ) (x y : X) → i ≡ j → slice_get xs i ≡ Some x → slice_get xs j ≡ Some y → x ≡ y
one_item xs i j x y e a b =
    let w : slice_get xs i ≡ Some y = ap (λ (n : ℕ). slice_get xs n) e ∙ b in
    let r : x ≡ y = cc in r

-- the items behind a place
abbrev pub behind : {X : Type 0} → ℕ → List X → List X
behind n [] = []
behind zero (x ∷ xs) = xs
behind (suc n) (x ∷ xs) = behind n xs

pub behind_at : {X : Type 0} (xs : List X) (i j p : ℕ) → p ≡ i + 1 + j → slice_get (behind i xs) j ≡ slice_get xs p
behind_at [] i j p e = refl
behind_at (x ∷ xs) zero j zero e = absurd (omega arith)
behind_at (x ∷ xs) zero j (suc p) e = let same : j ≡ p = omega arith in ap (λ (n : ℕ). slice_get xs n) same
behind_at (x ∷ xs) (suc i) j zero e = absurd (omega arith)
behind_at (x ∷ xs) (suc i) j (suc p) e = behind_at xs i j p (omega arith)

-- ---- places in order

pub past : (i j : ℕ) → (j ≡ i → ⊥) → (j < i → ⊥) → i < j
past i j ne no_less = elim (cases_lt i j) [
  | inl e ↦ e
  | inr e ↦ elim (cases_lt j i) [
    | inl g ↦ absurd (no_less g)
    | inr g ↦ absurd (ne (omega arith))
  ]
]
