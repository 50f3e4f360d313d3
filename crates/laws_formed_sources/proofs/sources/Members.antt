-- What is in a list, and lists in which nothing stands twice.
use Rattle.std.proofs.Common.{◌≡◌, ◌⊎◌, inl, inr, List, [], ◌∷◌, ◌++◌, map, refl, ap, sym, subst}

abbrev pub In : {X : Type 0} → X → List X → Type 0
In q [] = ⊥
In q (x ∷ xs) = (x ≡ q) ⊎ In q xs

abbrev pub Apart : {X : Type 0} → List X → Type 0
Apart [] = Unit {0}
Apart (x ∷ xs) = (In x xs → ⊥) × Apart xs

pub in_front : {X : Type 0} (q : X) (xs ys : List X) → In q xs → In q (xs ++ ys)
in_front q [] ys h = absurd h
in_front q (x ∷ xs) ys (inl e) = inl e
in_front q (x ∷ xs) ys (inr h) = inr (in_front q xs ys h)

pub in_back : {X : Type 0} (q : X) (xs ys : List X) → In q ys → In q (xs ++ ys)
in_back q [] ys h = h
in_back q (x ∷ xs) ys h = inr (in_back q xs ys h)

pub in_either : {X : Type 0} (q : X) (xs ys : List X) → In q (xs ++ ys) → In q xs ⊎ In q ys
in_either q [] ys h = inr h
in_either q (x ∷ xs) ys (inl e) = inl (inl e)
in_either q (x ∷ xs) ys (inr h) = elim (in_either q xs ys h) [ inl i ↦ inl (inr i) | inr i ↦ inr i ]

pub in_map : {X Y : Type 0} (f : X → Y) (q : X) (xs : List X) → In q xs → In (f q) (map f xs)
in_map f q [] h = absurd h
in_map f q (x ∷ xs) (inl e) = inl (ap f e)
in_map f q (x ∷ xs) (inr h) = inr (in_map f q xs h)

pub from_map : {X Y : Type 0} (f : X → Y) (q : Y) (xs : List X) → In q (map f xs) → (x : X) × (f x ≡ q) × In x xs
from_map f q [] h = absurd h
from_map f q (x ∷ xs) (inl e) = (x, e, inl refl)
from_map f q (x ∷ xs) (inr h) = let r = from_map f q xs h in (r.0, r.1, inr r.2)

pub apart_front : {X : Type 0} (xs ys : List X) → Apart (xs ++ ys) → Apart xs
apart_front [] ys h = tt
apart_front (x ∷ xs) ys h = ((λ i. h.0 (in_front x xs ys i)), apart_front xs ys h.1)

pub apart_back : {X : Type 0} (xs ys : List X) → Apart (xs ++ ys) → Apart ys
apart_back [] ys h = h
apart_back (x ∷ xs) ys h = apart_back xs ys h.1

pub apart_sides : {X : Type 0} (xs ys : List X) → Apart (xs ++ ys) → (q : X) → In q xs → In q ys → ⊥
apart_sides [] ys h q i j = i
apart_sides (x ∷ xs) ys h q (inl e) j = h.0 (subst (λ z. In z (xs ++ ys)) (sym e) (in_back q xs ys j))
apart_sides (x ∷ xs) ys h q (inr i) j = apart_sides xs ys h.1 q i j

pub apart_map : {X Y : Type 0} (f : X → Y) (xs : List X) → Apart (map f xs) → Apart xs
apart_map f [] h = tt
apart_map f (x ∷ xs) h = ((λ i. h.0 (in_map f x xs i)), apart_map f xs h.1)
