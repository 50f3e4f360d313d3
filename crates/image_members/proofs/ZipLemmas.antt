-- Two lists whose items belong together, place by place.
use Rattle.std.proofs.Common.{◌≡◌, ap, refl, subst, ℕ, zero, suc, List, [], ◌∷◌, ◌++◌, length, Some}
use Rattle.std.specs.Prelude.{slice_get}
use Rattle.std.specs.List.{AllZip}

module _ {A B : Type 0} (R : A → B → Type 0) where
  pub zip_both : (xs more : List A) (ys others : List B) → AllZip R xs ys → AllZip R more others → AllZip R (xs ++ more) (ys ++ others)
  zip_both [] more [] others p q = q
  zip_both [] more (y ∷ ys) others p q = absurd p
  zip_both (x ∷ xs) more [] others p q = absurd p
  zip_both (x ∷ xs) more (y ∷ ys) others p q = (p.0, zip_both xs more ys others p.1 q)

  pub zip_at : (xs : List A) (ys : List B) (k : ℕ) (x : A) → AllZip R xs ys → slice_get xs k ≡ Some x → (y : B) × (slice_get ys k ≡ Some y) × R x y
  zip_at [] ys k x p at = absurd cc
  zip_at (z ∷ xs) [] k x p at = absurd p
  zip_at (z ∷ xs) (y ∷ ys) zero x p at =
      let e : z ≡ x = cc in
      (y, refl, subst (λ w. R w y) e p.0)
  zip_at (z ∷ xs) (y ∷ ys) (suc k) x p at = zip_at xs ys k x p.1 at

  pub zip_long : (xs : List A) (ys : List B) → AllZip R xs ys → length xs ≡ length ys
  zip_long [] [] p = refl
  zip_long [] (y ∷ ys) p = absurd p
  zip_long (x ∷ xs) [] p = absurd p
  zip_long (x ∷ xs) (y ∷ ys) p = ap suc (zip_long xs ys p.1)

pub zip_later : {A B : Type 0} (P Q : A → B → Type 0) (xs : List A) (ys : List B) → ((x : A) (y : B) → P x y → Q x y) → AllZip P xs ys → AllZip Q xs ys
zip_later P Q [] [] f p = tt
zip_later P Q [] (y ∷ ys) f p = absurd p
zip_later P Q (x ∷ xs) [] f p = absurd p
zip_later P Q (x ∷ xs) (y ∷ ys) f p = (f x y p.0, zip_later P Q xs ys f p.1)

-- the item that belongs to one of the second list
pub zip_from : {A B : Type 0} (R : A → B → Type 0) (xs : List A) (ys : List B) (k : ℕ) (y : B) → AllZip R xs ys → slice_get ys k ≡ Some y → (x : A) × (slice_get xs k ≡ Some x) × R x y
zip_from R [] [] k y p at = absurd cc
zip_from R [] (z ∷ ys) k y p at = absurd p
zip_from R (x ∷ xs) [] k y p at = absurd p
zip_from R (x ∷ xs) (z ∷ ys) zero y p at =
    let e : z ≡ y = cc in
    (x, refl, subst (λ w. R x w) e p.0)
zip_from R (x ∷ xs) (z ∷ ys) (suc k) y p at = zip_from R xs ys k y p.1 at
