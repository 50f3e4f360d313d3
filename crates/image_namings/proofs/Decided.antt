-- What is decided at a place, and is one there, is told by an option.
use Rattle.std.proofs.Common.{◌≡◌, ℕ, ◌<◌, ◌≤◌, ◌⊎◌, inl, inr, ◌↔◌, List, Option, Some, None, refl, sym, ◌∙◌, ap, subst, arith}
use Rattle.heaps.specs.Content.{HasBlob}
use Rattle.image_namings.proofs.General.{InBlob}

-- there is a value, or there is none
abbrev pub Decided : {X : Type 0} → (X → Type 0) → Type 0
Decided {X = X} P = ((x : X) × P x) ⊎ ((x : X) → P x → ⊥)

abbrev pub value_of : {X : Type 0} (P : X → Type 0) → Decided P → Option X
value_of P (inl h) = Some h.0
value_of P (inr none) = None

abbrev value_or : {X : Type 0} → X → Option X → X
value_or d None = d
value_or d (Some x) = x

abbrev IsThere : {X : Type 0} → Option X → Type 0
IsThere None = ⊥
IsThere (Some x) = Unit {0}

pub none_is_not : {X : Type 0} {x : X} → ◌≡◌ {A = Option X} None (Some x) → ⊥
none_is_not e = subst IsThere (sym e) tt

pub some_is : {X : Type 0} (x y : X) → Some x ≡ Some y → x ≡ y
some_is x y e = ap (value_or x) e

pub told : {X : Type 0} (P : X → Type 0) → ((x y : X) → P x → P y → x ≡ y) → (d : Decided P) (x : X) → (value_of P d ≡ Some x) ↔ P x
told P one (inl h) x = (λ e. subst P (some_is h.0 x e) h.1, λ p. ap Some (one h.0 x h.1 p))
told P one (inr none) x = (λ e. absurd (none_is_not e), λ p. absurd (none x p))

-- what a function reads is decided, and is one
pub read : {X : Type 0} (o : Option X) (P : X → Type 0) → ((x : X) → (o ≡ Some x) ↔ P x) → Decided P
read None P f = inr (λ x p. absurd (none_is_not ((f x).1 p)))
read (Some x) P f = inl (x, (f x).0 refl)

pub read_one : {X : Type 0} (o : Option X) (P : X → Type 0) → ((x : X) → (o ≡ Some x) ↔ P x) → (x y : X) → P x → P y → x ≡ y
read_one o P f x y p q = some_is x y (sym ((f x).1 p) ∙ (f y).1 q)

-- the same of another relation that holds of the same values
pub decided_as : {X : Type 0} (P Q : X → Type 0) → ((x : X) → P x → Q x) → ((x : X) → Q x → P x) → Decided P → Decided Q
decided_as P Q f g (inl h) = inl (h.0, f h.0 h.1)
decided_as P Q f g (inr none) = inr (λ x q. none x (g x q))

-- what is spelled in a blob
abbrev pub OneBlob : List ℕ → Type 0
OneBlob heap = (index : ℕ) (a b : List ℕ) → HasBlob heap index a → HasBlob heap index b → a ≡ b

spelled : {X : Type 0} (heap : List ℕ) (Spells : List ℕ → X → Type 0) (index : ℕ) → OneBlob heap → (bytes : List ℕ) → HasBlob heap index bytes → Decided (Spells bytes) → Decided (InBlob heap Spells index)
spelled heap Spells index one bytes there (inl h) = inl (h.0, (bytes, there, h.1))
spelled heap Spells index one bytes there (inr none) = inr (λ x k. none x (subst (λ b. Spells b x) (one index k.0 bytes k.1 there) k.2))

pub in_blob : {X : Type 0} (heap : List ℕ) (Spells : List ℕ → X → Type 0) (index : ℕ) → OneBlob heap → ((bytes : List ℕ) → Decided (Spells bytes)) → (bytes : List ℕ) × HasBlob heap index bytes → Decided (InBlob heap Spells index)
in_blob heap Spells index one decide there = spelled heap Spells index one there.0 there.1 (decide there.0)

-- ---- numbers

pub same : (m n : ℕ) → (m ≡ n) ⊎ (m ≡ n → ⊥)
same m n = elim (compare m n) [
  | inl lt ↦ inr (λ e. omega arith)
  | inr (inl gt) ↦ inr (λ e. omega arith)
  | inr (inr e) ↦ inl e
]
  where
    compare : (m n : ℕ) → (m < n) ⊎ ((n < m) ⊎ (m ≡ n))
    compare m n = grind arith

pub within : (row count : ℕ) → ((0 < row) × (row ≤ count)) ⊎ ((0 < row) × (row ≤ count) → ⊥)
within row count = elim (positive row) [
  | inl some ↦ elim (most row count) [ inl le ↦ inl (some, le) | inr gt ↦ inr (λ h. omega (arith, h.1)) ]
  | inr none ↦ inr (λ h. omega (arith, h.0))
]
  where
    positive : (m : ℕ) → (0 < m) ⊎ (m ≡ 0)
    positive m = grind arith

    most : (m n : ℕ) → (m ≤ n) ⊎ (n < m)
    most m n = grind arith
