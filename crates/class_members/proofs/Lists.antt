-- What is in lists that are made of others.
use Rattle.std.proofs.Common.{◌≡◌, ◌∙◌, refl, sym, ap, subst, ◌⊎◌, inl, inr, ◌↔◌, ℕ, ◌+◌, ◌<◌, Bool, true, false, true≢false, ◌||◌, List, [], ◌∷◌, ◌++◌, length, get_or, set, drop, take, map, arith, if◌then◌else◌, IsTrue, nat_eq}
use Rattle.std.specs.Cmp.Lexicographic.{pointwise, bytes_decides}
use Rattle.std.specs.List.{Contains, flat_map, list_any}
use Rattle.std.proofs.lemmas.Grind.{flat_map-append}
use Rattle.std.proofs.lemmas.List.{append-nil, take_more}
use Rattle.std.proofs.lemmas.List.Elements.{Contains-append_left, Contains-append_cases}
use Rattle.class_model.proofs.Members.{nothing_in, first_in, later_in, first_or_later}
use Rattle.class_members.specs.Facts.{IsNoted}

pub in_right : {X : Type 0} (xs ys : List X) (y : X) → Contains ys y → Contains (xs ++ ys) y
in_right [] ys y c = c
in_right (x ∷ xs) ys y c = later_in x (xs ++ ys) y (in_right xs ys y c)

module _ {X Y : Type 0} (f : X → List Y) where
  pub in_all : (xs : List X) (x : X) (y : Y) → Contains xs x → Contains (f x) y → Contains (flat_map f xs) y
  in_all [] x y c d = absurd (nothing_in x c)
  in_all (z ∷ xs) x y c d = elim (first_or_later z xs x c) [
    | inl e ↦ Contains-append_left (f z) (flat_map f xs) y (subst (λ (v : X). Contains (f v) y) (sym e) d)
    | inr l ↦ in_right (f z) (flat_map f xs) y (in_all xs x y l d)
  ]

  pub in_some : (xs : List X) (y : Y) → Contains (flat_map f xs) y → (x : X) × Contains xs x × Contains (f x) y
  in_some [] y c = absurd (nothing_in y c)
  in_some (z ∷ xs) y c = elim (Contains-append_cases (f z) (flat_map f xs) y c) [
    | inl d ↦ (z, first_in z xs, d)
    | inr d ↦ let r = in_some xs y d in (r.0, later_in z xs r.0 r.1, r.2)
  ]

  pub all_more : (xs : List X) (k : ℕ) (x : X) → k < length xs → x ≡ get_or xs k x → flat_map f (take (k + 1) xs) ≡ flat_map f (take k xs) ++ f x
  all_more xs k x low is =
      ap (flat_map f) (take_more xs k x low) ∙ flat_map-append f (take k xs) (get_or xs k x ∷ [])
      ∙ ap (λ (l : List Y). flat_map f (take k xs) ++ l) (append-nil (f (get_or xs k x)) ∙ ap f (sym is))

-- ---- lists of numbers in a set

module _ {A : Type 0} (f : A → List ℕ) (key : List ℕ) where
  abbrev is_key : A → Bool
  is_key v = pointwise nat_eq key (f v)

  either : (a b : Bool) → (a || b) ≡ true → (a ≡ true) ⊎ (b ≡ true)
  either true b e = inl refl
  either false b e = inr e

  left : (a b : Bool) → a ≡ true → (a || b) ≡ true
  left true b e = refl
  left false b e = absurd (true≢false (sym e))

  right : (a b : Bool) → b ≡ true → (a || b) ≡ true
  right true b e = refl
  right false b e = e

  any_in : (xs : List A) → list_any is_key xs ≡ true → Contains (map f xs) key
  any_in [] e = absurd (true≢false (sym e))
  any_in (x ∷ xs) e = elim (either (is_key x) (list_any is_key xs) e) [
    | inl h ↦ subst (λ (k : List ℕ). Contains (f x ∷ map f xs) k) (sym ((bytes_decides key (f x)).0 h)) (first_in (f x) (map f xs))
    | inr h ↦ later_in (f x) (map f xs) key (any_in xs h)
  ]

  in_any : (xs : List A) → Contains (map f xs) key → list_any is_key xs ≡ true
  in_any [] c = absurd (nothing_in key c)
  in_any (x ∷ xs) c = elim (first_or_later (f x) (map f xs) key c) [
    | inl e ↦ left (is_key x) (list_any is_key xs) ((bytes_decides key (f x)).1 (sym e))
    | inr d ↦ right (is_key x) (list_any is_key xs) (in_any xs d)
  ]

  pub is_in : (xs : List A) (r : Bool) → r ≡ list_any is_key xs → IsTrue r ↔ Contains (map f xs) key
  is_in xs r e = (λ t. any_in xs (sym e ∙ t), λ c. e ∙ in_any xs c)

module _ {A : Type 0} (f : A → List ℕ) where
  mapped_end : (xs : List A) (x : A) → map f (xs ++ x ∷ []) ≡ map f xs ++ f x ∷ []
  mapped_end [] x = refl
  mapped_end (y ∷ xs) x = ap (λ (t : List (List ℕ)). f y ∷ t) (mapped_end xs x)

  there : (xs : List A) (x : A) → Contains (map f xs) (f x) → IsNoted (map f xs) (map f xs) (f x)
  there xs x c = record { kept = λ k d. d; has = c; only = λ k d. inl d }

  only_last : (old : List (List ℕ)) (fact k : List ℕ) → Contains (old ++ fact ∷ []) k → Contains old k ⊎ (k ≡ fact)
  only_last old fact k c = elim (Contains-append_cases old (fact ∷ []) k c) [
    | inl d ↦ inl d
    | inr d ↦ elim (first_or_later fact [] k d) [ inl e ↦ inr (sym e) | inr n ↦ absurd (nothing_in k n) ]
  ]

  put_last : (old : List (List ℕ)) (fact : List ℕ) → IsNoted old (old ++ fact ∷ []) fact
  put_last old fact = record {
    kept = λ k c. Contains-append_left old (fact ∷ []) k c;
    has = in_right old (fact ∷ []) fact (first_in fact []);
    only = only_last old fact;
  }

  noted_by : (xs : List A) (x : A) (b : Bool) → list_any (is_key f (f x)) xs ≡ b → IsNoted (map f xs) (map f (if b then xs else xs ++ x ∷ [])) (f x)
  noted_by xs x true e = there xs x (any_in f (f x) xs e)
  noted_by xs x false e = subst (λ (l : List (List ℕ)). IsNoted (map f xs) l (f x)) (sym (mapped_end xs x)) (put_last (map f xs) (f x))

  pub is_noted : (xs ys : List A) (x : A) → ys ≡ (if list_any (is_key f (f x)) xs then xs else xs ++ x ∷ []) → IsNoted (map f xs) (map f ys) (f x)
  is_noted xs ys x e = subst (λ (l : List A). IsNoted (map f xs) (map f l) (f x)) (sym e) (noted_by xs x (list_any (is_key f (f x)) xs) refl)

-- ---- a fact with another first number

pub first_set : (xs : List ℕ) (n : ℕ) → 0 < length xs → set xs 0 n ≡ n ∷ drop 1 xs
first_set [] n h = absurd (omega arith)
first_set (x ∷ xs) n h = refl

pub rest_set : (xs : List ℕ) (n : ℕ) → 0 < length xs → drop 1 (set xs 0 n) ≡ drop 1 xs
rest_set [] n h = absurd (omega arith)
rest_set (x ∷ xs) n h = refl

pub long_set : (xs : List ℕ) (n : ℕ) → 0 < length xs → 0 < length (set xs 0 n)
long_set [] n h = absurd (omega arith)
long_set (x ∷ xs) n h = omega arith

pub one_of_three : {A B C : Type 0} (a b c : Bool) → (IsTrue a ↔ A) → (IsTrue b ↔ B) → (IsTrue c ↔ C) → IsTrue (a || (b || c)) ↔ (A ⊎ (B ⊎ C))
one_of_three true b c f g h = (λ t. inl (f.0 refl), λ x. refl)
one_of_three false true c f g h = (λ t. inr (inl (g.0 refl)), λ x. refl)
one_of_three false false c f g h = (
  λ t. inr (inr (h.0 t)),
  λ x. elim x [
    | inl y ↦ absurd (true≢false (sym (f.1 y)))
    | inr y ↦ elim y [ inl z ↦ absurd (true≢false (sym (g.1 z))) | inr z ↦ h.1 z ]
  ],
)
