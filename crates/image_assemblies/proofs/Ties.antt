-- Owners that tie in the order of owners are one, and a list of owners is put in order without loss.
use Rattle.std.proofs.Common.{◌≡◌, ℕ, zero, suc, ◌<◌, ◌⊎◌, inl, inr, List, [], ◌∷◌, Contains, length, slice_index_or, refl, sym, ◌∙◌, ap, arith}
use Rattle.std.specs.Cmp.{IsTotalOrder}
use Rattle.std.specs.declared.cmp.Ordering.{Ordering}
use Rattle.std.specs.declared.cmp.Ordering.TheVariants.{Less, Equal, Greater}
use Rattle.std.specs.Ordering.{is_eq, nat_cmp, ordering_then, ordering_reverse}
use Rattle.type_terms.specs.Order.{place, fields_order, name_order, owner_step, term_step, term_order, owner_order, owner_layers}
use Rattle.type_terms.specs.Same.{is_same_type}
use Rattle.type_terms.specs.declared.name.TypeName.{TypeName}
use Rattle.type_terms.specs.declared.term.Owner.{Owner}
use Rattle.type_terms.specs.declared.term.Owner.TheVariants as owner
use Rattle.type_terms.specs.declared.term.Owner.TheOpen as layer
use Rattle.type_terms.specs.declared.term.SigType.{SigType, out-SigType}
use Rattle.type_terms.specs.declared.term.SigType.TheVariants as type
use Rattle.type_terms.proofs.Layers.{fold-Name, fold-Spec, fold-Class}
use Rattle.type_terms.proofs.SameLaws.{equal_types}
use Rattle.sorted_owners.specs.Rising.{put_before, put, rising}
use Rattle.image_model.specs.Reading.{Rising}

-- ---- ties

type_tie : (s t : SigType) → term_order s t ≡ Equal → s ≡ t
type_tie s t e = (equal_types s t (is_same_type s t) refl).0 (ap is_eq e)

names_order : (n m : TypeName) → owner_order (owner.Name n) (owner.Name m) ≡ name_order n m
names_order n m =
    ap (λ (f : Owner → Ordering). f (owner.Name m)) (fold-Name (Owner → Ordering) (SigType → Ordering) owner_step term_step n) ∙ ap (owner_layers (layer.Name n)) (owner.outs-Name m)

classes_order : (n m : TypeName) → term_order (type.Class n) (type.Class m) ≡ name_order n m
classes_order n m =
    ap (λ (f : SigType → Ordering). f (type.Class m)) (fold-Class (Owner → Ordering) (SigType → Ordering) owner_step term_step n)
    ∙ ap (λ (l : layer.SigType-F Owner SigType). ordering_then (nat_cmp 1 (place l)) (fields_order (layer.Class n) l)) (type.outs-Class m)

specs_order : (s t : SigType) → owner_order (owner.Spec s) (owner.Spec t) ≡ term_order s t
specs_order s t =
    ap (λ (f : Owner → Ordering). f (owner.Spec t)) (fold-Spec (Owner → Ordering) (SigType → Ordering) owner_step term_step s) ∙ ap (owner_layers (layer.Spec (term_order s))) (owner.outs-Spec t)

name_spec : (n : TypeName) (t : SigType) → owner_order (owner.Name n) (owner.Spec t) ≡ Less
name_spec n t =
    ap (λ (f : Owner → Ordering). f (owner.Spec t)) (fold-Name (Owner → Ordering) (SigType → Ordering) owner_step term_step n) ∙ ap (owner_layers (layer.Name n)) (owner.outs-Spec t)

spec_name : (s : SigType) (n : TypeName) → owner_order (owner.Spec s) (owner.Name n) ≡ Greater
spec_name s n =
    ap (λ (f : Owner → Ordering). f (owner.Name n)) (fold-Spec (Owner → Ordering) (SigType → Ordering) owner_step term_step s) ∙ ap (owner_layers (layer.Spec (term_order s))) (owner.outs-Name n)

class_name : (n m : TypeName) → type.Class n ≡ type.Class m → n ≡ m
class_name n m e =
    let f : layer.Class n ≡ layer.Class m = sym (type.outs-Class n) ∙ ap out-SigType e ∙ type.outs-Class m in
    cc

pub owner_tie : (a b : Owner) → owner_order a b ≡ Equal → a ≡ b
owner_tie (owner.Name n) (owner.Name m) e = ap owner.Name (class_name n m (type_tie (type.Class n) (type.Class m) (classes_order n m ∙ sym (names_order n m) ∙ e)))
owner_tie (owner.Name n) (owner.Spec t) e = absurd (let f = sym (name_spec n t) ∙ e in cc)
owner_tie (owner.Spec s) (owner.Name m) e = absurd (let f = sym (spec_name s m) ∙ e in cc)
owner_tie (owner.Spec s) (owner.Spec t) e = ap owner.Spec (type_tie s t (sym (specs_order s t) ∙ e))

-- ---- members

abbrev pub IsIn : Owner → List Owner → Type 0
IsIn x [] = ⊥
IsIn x (y ∷ ys) = (y ≡ x) ⊎ IsIn x ys

pub is_in : (x : Owner) (ys : List Owner) (k : ℕ) → k < length ys → slice_index_or ys k x ≡ x → IsIn x ys
is_in x [] k lt e = absurd (omega arith)
is_in x (y ∷ ys) zero lt e = inl e
is_in x (y ∷ ys) (suc k) lt e = inr (is_in x ys k (omega arith) e)

pub contained : (x : Owner) (ys : List Owner) → IsIn x ys → Contains ys x
contained x [] h = absurd h
contained x (y ∷ ys) (inl e) = (0, omega arith, e)
contained x (y ∷ ys) (inr h) = let c = contained x ys h in (suc c.0, omega (arith, c.1), c.2)

put_keeps : (x o : Owner) (xs : List Owner) → (o ≡ x) ⊎ IsIn x xs → IsIn x (put o xs)
put_keeps x o [] h = h
put_keeps x o (p ∷ rest) h = go (owner_order o p) refl h (put_keeps x o rest)
  where
    go : (r : Ordering) → owner_order o p ≡ r → (o ≡ x) ⊎ ((p ≡ x) ⊎ IsIn x rest) → ((o ≡ x) ⊎ IsIn x rest → IsIn x (put o rest)) → IsIn x (put_before r o p rest (put o rest))
    go Less e k later = k
    go Equal e (inl f) later = inl (sym (owner_tie o p e) ∙ f)
    go Equal e (inr k) later = k
    go Greater e (inl f) later = inr (later (inl f))
    go Greater e (inr (inl g)) later = inl g
    go Greater e (inr (inr k)) later = inr (later (inr k))

put_only : (x o : Owner) (xs : List Owner) → IsIn x (put o xs) → (o ≡ x) ⊎ IsIn x xs
put_only x o [] h = h
put_only x o (p ∷ rest) h = go (owner_order o p) h (put_only x o rest)
  where
    go : (r : Ordering) → IsIn x (put_before r o p rest (put o rest)) → (IsIn x (put o rest) → (o ≡ x) ⊎ IsIn x rest) → (o ≡ x) ⊎ ((p ≡ x) ⊎ IsIn x rest)
    go Less k later = k
    go Equal k later = inr k
    go Greater (inl g) later = inr (inl g)
    go Greater (inr k) later = back (later k)
      where
        back : (o ≡ x) ⊎ IsIn x rest → (o ≡ x) ⊎ ((p ≡ x) ⊎ IsIn x rest)
        back (inl f) = inl f
        back (inr m) = inr (inr m)

pub rising_keeps : (x : Owner) (os : List Owner) → IsIn x os → IsIn x (rising os)
rising_keeps x [] h = h
rising_keeps x (o ∷ os) (inl e) = put_keeps x o (rising os) (inl e)
rising_keeps x (o ∷ os) (inr h) = put_keeps x o (rising os) (inr (rising_keeps x os h))

pub rising_only : (x : Owner) (os : List Owner) → IsIn x (rising os) → IsIn x os
rising_only x [] h = h
rising_only x (o ∷ os) h = go (put_only x o (rising os) h) (rising_only x os)
  where
    go : (o ≡ x) ⊎ IsIn x (rising os) → (IsIn x (rising os) → IsIn x os) → IsIn x (o ∷ os)
    go (inl e) later = inl e
    go (inr k) later = inr (later k)

-- ---- order

abbrev Before : Owner → List Owner → Type 0
Before p [] = Unit {0}
Before p (q ∷ more) = owner_order p q ≡ Less

first_before : (p : Owner) (xs : List Owner) → Rising (p ∷ xs) → Before p xs
first_before p [] r = tt
first_before p (q ∷ more) r = r.0

others_rise : (p : Owner) (xs : List Owner) → Rising (p ∷ xs) → Rising xs
others_rise p [] r = tt
others_rise p (q ∷ more) r = r.1

put_front : (p : Owner) (xs : List Owner) → Before p xs → Rising xs → Rising (p ∷ xs)
put_front p [] b r = tt
put_front p (q ∷ more) b r = (b, r)

module _ (total : IsTotalOrder owner_order) where
  before_put : (p o : Owner) (rest : List Owner) → owner_order o p ≡ Greater → Before p rest → Before p (put o rest)
  before_put p o [] e b = total.antisymm p o ∙ ap ordering_reverse e
  before_put p o (q ∷ more) e b = go (owner_order o q)
    where
      go : (r : Ordering) → Before p (put_before r o q more (put o more))
      go Less = total.antisymm p o ∙ ap ordering_reverse e
      go Equal = b
      go Greater = b

  put_rises : (o : Owner) (xs : List Owner) → Rising xs → Rising (put o xs)
  put_rises o [] r = tt
  put_rises o (p ∷ rest) r = go (owner_order o p) refl (put_rises o rest (others_rise p rest r))
    where
      go : (s : Ordering) → owner_order o p ≡ s → Rising (put o rest) → Rising (put_before s o p rest (put o rest))
      go Less e k = (e, r)
      go Equal e k = r
      go Greater e k = put_front p (put o rest) (before_put p o rest e (first_before p rest r)) k

  pub rising_rises : (os : List Owner) → Rising (rising os)
  rising_rises [] = tt
  rising_rises (o ∷ os) = put_rises o (rising os) (rising_rises os)
