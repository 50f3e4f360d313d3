-- Where cells stand among the rows of a set.
use Rattle.std.proofs.Common.{◌⊎◌, inl, inr, ◌-◌, ◌≡◌, ap, refl, sym, ◌∙◌, subst, ℕ, zero, suc, ◌<◌, Bool, true, false, ◌||◌, ◌&&◌, List, [], ◌∷◌, ◌++◌, length, get_or, Some, true≢false, nat_eq, arith}
use Rattle.std.specs.Prelude.{slice_get}
use Rattle.image_tokens.specs.Rows.{IsRowAt, Lacks, AreDistinct, are_same}
use Rattle.std.specs.Bool.{Decides}
use Rattle.std.specs.Cmp.{first_so, second_so}
use Rattle.std.specs.List.{position, list_any}
use Rattle.std.proofs.lemmas.Bool.{eqb-true, eq-eqb}
use Rattle.std.proofs.lemmas.List.Quantifiers.{position-Some}
use Rattle.image_tokens.specs.declared.row_set.Cells.{Cells}

pub at_index : {A : Type 0} (xs : List A) (k : ℕ) (d : A) → k < length xs → slice_get xs k ≡ Some (get_or xs k d)
at_index [] k d h = absurd (omega arith)
at_index (x ∷ xs) zero d h = refl
at_index (x ∷ xs) (suc k) d h = at_index xs k d (omega arith)

module _ {A : Type 0} (p : A → Bool) (key : A) (decides : (x : A) → Decides (p x) (key ≡ x)) where
  found_at : (xs : List A) (k : ℕ) → position p xs ≡ Some k → slice_get xs k ≡ Some key
  found_at [] k e = cc
  found_at (x ∷ xs) k e =
      let q = position-Some p (x ∷ xs) k x e in
      at_index (x ∷ xs) k x q.0 ∙ ap Some (sym ((decides (get_or (x ∷ xs) k x)).0 q.1))

  any_tail : (a b : Bool) → (a || b) ≡ false → (a ≡ false) × (b ≡ false)
  any_tail true b e = absurd (true≢false e)
  any_tail false b e = (refl, e)

  lacks : (xs : List A) → list_any p xs ≡ false → (k : ℕ) → slice_get xs k ≡ Some key → ⊥
  lacks [] e k h = cc
  lacks (x ∷ xs) e zero h =
      let same : key ≡ x = cc in
      true≢false (sym ((decides x).1 same) ∙ (any_tail (p x) (list_any p xs) e).0)
  lacks (x ∷ xs) e (suc k) h = lacks xs (any_tail (p x) (list_any p xs) e).1 k h

  decided : (x : A) (b : Bool) → p x ≡ b → (key ≡ x → ⊥) → b ≡ false
  decided x true e other = absurd (other ((decides x).0 e))
  decided x false e other = refl

  pub lacking : (xs : List A) → ((k : ℕ) → slice_get xs k ≡ Some key → ⊥) → list_any p xs ≡ false
  lacking [] other = refl
  lacking (x ∷ xs) other =
      let head = decided x (p x) refl (λ e. other 0 (ap Some (sym e))) in
      let tail = lacking xs (λ k h. other (suc k) h) in
      ap (λ a. a || list_any p xs) head ∙ tail

  pub find_found : (xs : List A) (k : ℕ) → Some k ≡ position p xs → slice_get xs k ≡ Some key
  find_found xs k e = found_at xs k (sym e)

  pub find_none : (xs : List A) → false ≡ list_any p xs → (k : ℕ) → slice_get xs k ≡ Some key → ⊥
  find_none xs e = lacks xs (sym e)

same_cells : (a b : Cells) → a.first ≡ b.first → a.second ≡ b.second → a.third ≡ b.third → a ≡ b
same_cells a b p q r = λ i. record { first = p i; second = q i; third = r i }

-- derived equality of cells
pub decides_cells : (a b : Cells) → Decides (are_same a b) (a ≡ b)
decides_cells a b = (
  λ h. let rest = second_so (nat_eq a.first b.first) (nat_eq a.second b.second && nat_eq a.third b.third) h in
      same_cells a b (eqb-true a.first b.first (first_so (nat_eq a.first b.first) (nat_eq a.second b.second && nat_eq a.third b.third) h))
      (eqb-true a.second b.second (first_so (nat_eq a.second b.second) (nat_eq a.third b.third) rest))
      (eqb-true a.third b.third (second_so (nat_eq a.second b.second) (nat_eq a.third b.third) rest)),
  λ e. subst (λ (x : Cells). are_same a x ≡ true) e
      (λ i. eq-eqb a.first a.first refl i && (eq-eqb a.second a.second refl i && eq-eqb a.third a.third refl i)),
)

-- the last row is the one that has been added
pub last_row : (xs : List Cells) (x : Cells) → slice_get (xs ++ x ∷ []) (length xs) ≡ Some x
last_row [] x = refl
last_row (y ∷ xs) x = last_row xs x

-- ---- distinct rows

pub snoc_cases : (xs : List Cells) (x y : Cells) (k : ℕ) → slice_get (xs ++ x ∷ []) k ≡ Some y
    → (slice_get xs k ≡ Some y) ⊎ ((k ≡ length xs) × (y ≡ x))
snoc_cases [] x y zero h = inr (refl, cc)
snoc_cases [] x y (suc k) h = absurd cc
snoc_cases (z ∷ xs) x y zero h = inl h
snoc_cases (z ∷ xs) x y (suc k) h = elim (snoc_cases xs x y k h) [ inl e ↦ inl e | inr e ↦ inr (ap suc e.0, e.1) ]

pub distinct_more : (xs : List Cells) (x : Cells) → AreDistinct xs → Lacks xs x → AreDistinct (xs ++ x ∷ [])
distinct_more xs x distinct lacks j k c p q = elim (snoc_cases xs x c j p) [
  | inl old ↦ elim (snoc_cases xs x c k q) [
    | inl also ↦ distinct j k c old also
    | inr new ↦ absurd (lacks j (old ∙ ap Some new.1))
  ]
  | inr new ↦ elim (snoc_cases xs x c k q) [
    | inl also ↦ absurd (lacks k (also ∙ ap Some new.1))
    | inr too ↦ new.0 ∙ sym too.0
  ]
]

-- a row is where it is found
pub only_row : (xs : List Cells) (x : Cells) (row other : ℕ) → AreDistinct xs → IsRowAt xs x row → IsRowAt xs x other → row ≡ other
only_row xs x row other distinct a b = let e = distinct (row - 1) (other - 1) x a.at b.at in let p = a.counted in let q = b.counted in omega arith
