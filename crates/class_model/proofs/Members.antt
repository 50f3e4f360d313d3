-- What is in a list.
use Rattle.std.proofs.Common.{◌≡◌, refl, subst, zero, suc, ◌⊎◌, inl, inr, List, [], ◌∷◌, arith}
use Rattle.std.specs.List.{Contains, AllByRecursion}

module _ {X : Type 0} where
  pub nothing_in : (y : X) → Contains [] y → ⊥
  nothing_in y (k, h, e) = absurd (omega arith)

  pub first_in : (x : X) (xs : List X) → Contains (x ∷ xs) x
  first_in x xs = (0, omega arith, refl)

  pub later_in : (x : X) (xs : List X) (y : X) → Contains xs y → Contains (x ∷ xs) y
  later_in x xs y (k, h, e) = (suc k, omega arith, e)

  pub first_or_later : (x : X) (xs : List X) (y : X) → Contains (x ∷ xs) y → (x ≡ y) ⊎ Contains xs y
  first_or_later x xs y (zero, h, e) = inl e
  first_or_later x xs y (suc k, h, e) = inr (k, omega arith, e)

  pub holds_in : (P : X → Type 0) (xs : List X) (y : X) → AllByRecursion P xs → Contains xs y → P y
  holds_in P [] y all c = absurd (nothing_in y c)
  holds_in P (x ∷ xs) y all c = elim (first_or_later x xs y c) [ inl e ↦ subst P e all.0 | inr d ↦ holds_in P xs y all.1 d ]
