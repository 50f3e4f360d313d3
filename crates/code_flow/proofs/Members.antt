-- What holds of every member of a list.
use Rattle.std.proofs.Common.{◌≡◌, ◌⊎◌, inl, inr, ℕ, zero, suc, Bool, true, ◌||◌, map, List, [], ◌∷◌, ◌++◌, refl, sym, ◌∙◌, ap, subst, Some, arith}
use Rattle.std.specs.Prelude.{slice_get}
use Rattle.std.specs.List.{Contains, flat_map, list_all, list_any}
use Rattle.std.proofs.lemmas.Bool.{and_parts, and_from, or_cases, or_left, or_right}

abbrev pub Every : {X : Type 0} → (X → Type 0) → List X → Type 0
Every P [] = Unit {0}
Every P (x ∷ xs) = P x × Every P xs

pub here : {X : Type 0} (x : X) (xs : List X) → Contains (x ∷ xs) x
here x xs = (zero, omega arith, refl)

pub there : {X : Type 0} (x : X) (xs : List X) (y : X) → Contains xs y → Contains (x ∷ xs) y
there x xs y (k, h, e) = (suc k, omega arith, e)

pub either : {X : Type 0} (x : X) (xs : List X) (y : X) → Contains (x ∷ xs) y → (x ≡ y) ⊎ Contains xs y
either x xs y (zero, h, e) = inl e
either x xs y (suc k, h, e) = inr (k, omega arith, e)

pub none : {X : Type 0} (y : X) → Contains [] y → ⊥
none y (k, h, e) = omega arith

pub from_every : {X : Type 0} (P : X → Type 0) (xs : List X) → Every P xs → (x : X) → Contains xs x → P x
from_every P [] h x c = absurd (none x c)
from_every P (y ∷ ys) h x c = elim (either y ys x c) [
  | inl e ↦ subst P e h.0
  | inr more ↦ from_every P ys h.1 x more
]

pub to_every : {X : Type 0} (P : X → Type 0) (xs : List X) → ((x : X) → Contains xs x → P x) → Every P xs
to_every P [] h = tt
to_every P (y ∷ ys) h = (h y (here y ys), to_every P ys (λ x c. h x (there y ys x c)))

pub every_append : {X : Type 0} (P : X → Type 0) (xs ys : List X) → Every P xs → Every P ys → Every P (xs ++ ys)
every_append P [] ys a b = b
every_append P (x ∷ xs) ys a b = (a.0, every_append P xs ys a.1 b)

every_left : {X : Type 0} (P : X → Type 0) (xs ys : List X) → Every P (xs ++ ys) → Every P xs
every_left P [] ys h = tt
every_left P (x ∷ xs) ys h = (h.0, every_left P xs ys h.1)

every_right : {X : Type 0} (P : X → Type 0) (xs ys : List X) → Every P (xs ++ ys) → Every P ys
every_right P [] ys h = h
every_right P (x ∷ xs) ys h = every_right P xs ys h.1

pub every_flat : {X Y : Type 0} (P : Y → Type 0) (f : X → List Y) (xs : List X) → Every (λ x. Every P (f x)) xs → Every P (flat_map f xs)
every_flat P f [] h = tt
every_flat P f (x ∷ xs) h = every_append P (f x) (flat_map f xs) h.0 (every_flat P f xs h.1)

pub every_of_flat : {X Y : Type 0} (P : Y → Type 0) (f : X → List Y) (xs : List X) → Every P (flat_map f xs) → Every (λ x. Every P (f x)) xs
every_of_flat P f [] h = tt
every_of_flat P f (x ∷ xs) h = (every_left P (f x) (flat_map f xs) h, every_of_flat P f xs (every_right P (f x) (flat_map f xs) h))

pub all_from : {X : Type 0} (test : X → Bool) (xs : List X) → Every (λ x. test x ≡ true) xs → list_all test xs ≡ true
all_from test [] h = refl
all_from test (x ∷ xs) h = and_from (test x) (list_all test xs) h.0 (all_from test xs h.1)

pub all_to : {X : Type 0} (test : X → Bool) (xs : List X) → list_all test xs ≡ true → Every (λ x. test x ≡ true) xs
all_to test [] h = tt
all_to test (x ∷ xs) h = let p = and_parts (test x) (list_all test xs) h in (p.0, all_to test xs p.1)

pub every_map : {X : Type 0} (P Q : X → Type 0) (xs : List X) → ((x : X) → P x → Q x) → Every P xs → Every Q xs
every_map P Q [] f h = tt
every_map P Q (x ∷ xs) f h = (f x h.0, every_map P Q xs f h.1)

pub contains_at : {X : Type 0} (xs : List X) (k : ℕ) (x : X) → slice_get xs k ≡ Some x → Contains xs x
contains_at [] k x h = absurd (let f : ⊥ = cc in f)
contains_at (y ∷ ys) zero x h = let is : y ≡ x = cc in subst (λ z. Contains (y ∷ ys) z) is (here y ys)
contains_at (y ∷ ys) (suc k) x h = there y ys x (contains_at ys k x h)

pub place_of : {X : Type 0} (xs : List X) (x : X) → Contains xs x → (k : ℕ) × (slice_get xs k ≡ Some x)
place_of [] x c = absurd (none x c)
place_of (y ∷ ys) x c = elim (either y ys x c) [
  | inl e ↦ (0, ap Some e)
  | inr more ↦ let r = place_of ys x more in (suc r.0, r.1)
]

-- ---- lists of lists

pub of_append : {X : Type 0} (xs ys : List X) (y : X) → Contains (xs ++ ys) y → Contains xs y ⊎ Contains ys y
of_append [] ys y c = inr c
of_append (x ∷ xs) ys y c = elim (either x (xs ++ ys) y c) [
  | inl e ↦ inl (subst (λ z. Contains (x ∷ xs) z) e (here x xs))
  | inr more ↦ elim (of_append xs ys y more) [
    | inl l ↦ inl (there x xs y l)
    | inr r ↦ inr r
  ]
]

pub of_flat : {X Y : Type 0} (f : X → List Y) (xs : List X) (y : Y) → Contains (flat_map f xs) y → (x : X) × Contains xs x × Contains (f x) y
of_flat f [] y c = absurd (none y c)
of_flat f (x ∷ xs) y c = elim (of_append (f x) (flat_map f xs) y c) [
  | inl l ↦ (x, here x xs, l)
  | inr r ↦ let m = of_flat f xs y r in (m.0, there x xs m.0 m.1, m.2)
]

in_left : {X : Type 0} (xs ys : List X) (y : X) → Contains xs y → Contains (xs ++ ys) y
in_left [] ys y c = absurd (none y c)
in_left (x ∷ xs) ys y c = elim (either x xs y c) [
  | inl e ↦ subst (λ z. Contains (x ∷ (xs ++ ys)) z) e (here x (xs ++ ys))
  | inr more ↦ there x (xs ++ ys) y (in_left xs ys y more)
]

in_right : {X : Type 0} (xs ys : List X) (y : X) → Contains ys y → Contains (xs ++ ys) y
in_right [] ys y c = c
in_right (x ∷ xs) ys y c = there x (xs ++ ys) y (in_right xs ys y c)

pub in_flat : {X Y : Type 0} (f : X → List Y) (xs : List X) (x : X) (y : Y) → Contains xs x → Contains (f x) y → Contains (flat_map f xs) y
in_flat f [] x y c d = absurd (none x c)
in_flat f (z ∷ zs) x y c d = elim (either z zs x c) [
  | inl e ↦ in_left (f z) (flat_map f zs) y (subst (λ v. Contains (f v) y) (sym e) d)
  | inr more ↦ in_right (f z) (flat_map f zs) y (in_flat f zs x y more d)
]

-- some member passes a test
pub any_to : {X : Type 0} (test : X → Bool) (xs : List X) → list_any test xs ≡ true → (x : X) × Contains xs x × (test x ≡ true)
any_to test [] h = absurd (let f : ⊥ = cc in f)
any_to test (x ∷ xs) h = elim (or_cases (test x) (list_any test xs) h) [
  | inl e ↦ (x, here x xs, e)
  | inr r ↦ let m = any_to test xs r in (m.0, there x xs m.0 m.1, m.2)
]

pub any_from : {X : Type 0} (test : X → Bool) (xs : List X) (x : X) → Contains xs x → test x ≡ true → list_any test xs ≡ true
any_from test [] x c h = absurd (none x c)
any_from test (y ∷ ys) x c h = elim (either y ys x c) [
  | inl e ↦ or_left (test y) (list_any test ys) (ap test e ∙ h)
  | inr more ↦ or_right (test y) (list_any test ys) (any_from test ys x more h)
]

pub any_map : {X Y : Type 0} (p : X → Bool) (f : Y → X) (ys : List Y) → list_any p (map f ys) ≡ list_any (λ y. p (f y)) ys
any_map p f [] = refl
any_map p f (y ∷ ys) = ap (λ b. p (f y) || b) (any_map p f ys)
