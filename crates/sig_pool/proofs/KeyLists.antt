-- Where a list of numbers stands among the lists that the elements of another list hold.
use Rattle.std.proofs.Common.{◌≡◌, ap, refl, sym, ◌∙◌, ℕ, zero, suc, ◌<◌, Bool, true, false, ◌||◌, List, [], ◌∷◌, ◌++◌, map, length, get_or, slice_get, IfSome, IfNone, is_some, if◌then◌else◌, Option, Some, None, true≢false, nat_eq, arith}
use Rattle.std.specs.Cmp.Lexicographic.{pointwise, bytes_decides}
use Rattle.std.specs.List.{position, list_any}
use Rattle.std.proofs.lemmas.List.Quantifiers.{position-Some}

module _ {A : Type 0} (f : A → List ℕ) (key : List ℕ) where
  abbrev pub is_key : A → Bool
  is_key v = pointwise nat_eq key (f v)

  map_at : (xs : List A) (k : ℕ) (d : A) → k < length xs → slice_get (map f xs) k ≡ Some (f (get_or xs k d))
  map_at [] k d h = absurd (omega arith)
  map_at (x ∷ xs) zero d h = refl
  map_at (x ∷ xs) (suc k) d h = map_at xs k d (omega arith)

  pub found_at : (xs : List A) (k : ℕ) → position is_key xs ≡ Some k → slice_get (map f xs) k ≡ Some key
  found_at [] k e = cc
  found_at (x ∷ xs) k e =
      let p = position-Some is_key (x ∷ xs) k x e in
      map_at (x ∷ xs) k x p.0 ∙ ap Some (sym ((bytes_decides key (f (get_or (x ∷ xs) k x))).0 p.1))

  any_tail : (a b : Bool) → (a || b) ≡ false → (a ≡ false) × (b ≡ false)
  any_tail true b e = absurd (true≢false e)
  any_tail false b e = (refl, e)

  pub lacks : (xs : List A) → list_any is_key xs ≡ false → (k : ℕ) → slice_get (map f xs) k ≡ Some key → ⊥
  lacks [] e k h = cc
  lacks (x ∷ xs) e zero h =
      let same : key ≡ f x = cc in
      true≢false (sym ((bytes_decides key (f x)).1 same) ∙ (any_tail (is_key x) (list_any is_key xs) e).0)
  lacks (x ∷ xs) e (suc k) h = lacks xs (any_tail (is_key x) (list_any is_key xs) e).1 k h

  decided : (x : A) (b : Bool) → is_key x ≡ b → (key ≡ f x → ⊥) → b ≡ false
  decided x true e other = absurd (other ((bytes_decides key (f x)).0 e))
  decided x false e other = refl

  pub lacking : (xs : List A) → ((k : ℕ) → slice_get (map f xs) k ≡ Some key → ⊥) → list_any is_key xs ≡ false
  lacking [] other = refl
  lacking (x ∷ xs) other =
      let head = decided x (is_key x) refl (λ e. other 0 (ap Some (sym e))) in
      let tail = lacking xs (λ k h. other (suc k) h) in
      ap (λ a. a || list_any is_key xs) head ∙ tail

  pub mapped_end : (xs : List A) (x : A) → map f (xs ++ x ∷ []) ≡ map f xs ++ f x ∷ []
  mapped_end [] x = refl
  mapped_end (y ∷ xs) x = ap (λ t. f y ∷ t) (mapped_end xs x)

  pub find_found : (xs : List A) (r : Option ℕ) → r ≡ position is_key xs → IfSome r (λ k. slice_get (map f xs) k ≡ Some key)
  find_found xs None e = tt
  find_found xs (Some k) e = found_at xs k (sym e)

  pub find_none : (xs : List A) (r : Option ℕ) → is_some r ≡ list_any is_key xs → IfNone r ((k : ℕ) → slice_get (map f xs) k ≡ Some key → ⊥)
  find_none xs None e = lacks xs (sym e)
  find_none xs (Some k) e = tt

module _ {A : Type 0} (f : A → List ℕ) where
  pub pushed : (xs : List A) (x : A) (ys : List A) → ys ≡ (if list_any (is_key f (f x)) xs then xs else xs ++ x ∷ [])
      → ((k : ℕ) → slice_get (map f xs) k ≡ Some (f x) → ⊥) → map f ys ≡ map f xs ++ f x ∷ []
  pushed xs x ys e other =
      ap (map f) (e ∙ ap (λ b. if b then xs else xs ++ x ∷ []) (lacking f (f x) xs other)) ∙ mapped_end f (f x) xs x
