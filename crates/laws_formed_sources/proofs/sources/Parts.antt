-- Parts of a faultless forest.
use Rattle.std.proofs.Common.{◌≡◌, ℕ, ◌+◌, inl, inr, List, [], ◌∷◌, cond, map, refl, ap, sym, subst, ◌∙◌}
use Rattle.std.specs.Prelude.{Bool, true, false, ◌==◌, ◌||◌, filter}
use Rattle.std.specs.List.{AllByRecursion, enumerate_from, list_all}
use Rattle.std.proofs.lemmas.Bool.{and_from, cases_Bool}
use Rattle.std.proofs.lemmas.Bool.Decides.{Decides-eqb}
use Rattle.source_model.specs.Forest.{Forest, Part, below_each, each, is_among, parts}
use Rattle.source_model.specs.Source.{Source}
use Rattle.source_flags.proofs.Gathered.{IsSought, all_follow, of_parts}
use Rattle.laws_formed_sources.specs.sources.Productions.{AllFaultless, IsFaultlessAt}
use Rattle.laws_formed_sources.proofs.sources.Attributes.{IsGood}

pub parts_good : (s : Source) (sought : List ℕ) (f : Forest) → AllFaultless s f → AllByRecursion (IsGood s) (parts sought f)
parts_good s sought f all = all_follow (IsSought (IsFaultlessAt s) sought) (IsGood s) (parts sought f) (λ p h. (h.1, h.2)) (of_parts (IsFaultlessAt s) sought f all)

-- what stands below each part of one production
abbrev pub IsOf : Source → ℕ → Forest → Type 0
IsOf s p f = IsFaultlessAt s p f × AllFaultless s f

pub each_good : (s : Source) (p : ℕ) (f : Forest) → AllFaultless s f → AllByRecursion (IsOf s p) (each p f)
each_good s p f all = go (parts (p ∷ []) f) (of_parts (IsFaultlessAt s) (p ∷ []) f all)
  where
    same : (q : Part) → is_among (p ∷ []) q.production ≡ true → p ≡ q.production
    same q e = elim (cases_Bool (p == q.production)) [
      | inl is ↦ (Decides-eqb p q.production).0 is
      | inr other ↦ let h : false ≡ true = sym (ap (λ (c : Bool). c || false) other) ∙ e in absurd cc
    ]

    go : (ps : List Part) → AllByRecursion (IsSought (IsFaultlessAt s) (p ∷ [])) ps → AllByRecursion (IsOf s p) (below_each ps)
    go [] h = tt
    go (q ∷ qs) h = ((subst (λ r. IsFaultlessAt s r q.below) (sym (same q h.0.0)) h.0.1, h.0.2), go qs h.1)

pub filtered : {X : Type 0} (P : X → Type 0) (test : X → Bool) (xs : List X) → AllByRecursion P xs → AllByRecursion P (filter test xs)
filtered P test [] h = tt
filtered P test (x ∷ xs) h = elim (cases_Bool (test x)) [
  | inl is ↦ subst (AllByRecursion P) (sym (ap (λ (c : Bool). cond c (x ∷ filter test xs) (filter test xs)) is)) (h.0, filtered P test xs h.1)
  | inr other ↦ subst (AllByRecursion P) (sym (ap (λ (c : Bool). cond c (x ∷ filter test xs) (filter test xs)) other)) (filtered P test xs h.1)
]

-- with the test that they passed
pub passed : {X : Type 0} (P : X → Type 0) (test : X → Bool) (xs : List X) → AllByRecursion P xs → AllByRecursion (λ x. (test x ≡ true) × P x) (filter test xs)
passed P test [] h = tt
passed P test (x ∷ xs) h = elim (cases_Bool (test x)) [
  | inl is ↦
      subst (AllByRecursion (λ x. (test x ≡ true) × P x)) (sym (ap (λ (c : Bool). cond c (x ∷ filter test xs) (filter test xs)) is)) ((is, h.0), passed P test xs h.1)
  | inr other ↦
      subst (AllByRecursion (λ x. (test x ≡ true) × P x)) (sym (ap (λ (c : Bool). cond c (x ∷ filter test xs) (filter test xs)) other)) (passed P test xs h.1)
]

pub all_mapped : {X Y : Type 0} (P : X → Type 0) (test : Y → Bool) (f : X → Y) → ((x : X) → P x → test (f x) ≡ true) → (xs : List X) → AllByRecursion P xs → list_all test (map f xs) ≡ true
all_mapped P test f step [] h = refl
all_mapped P test f step (x ∷ xs) h = and_from (test (f x)) (list_all test (map f xs)) (step x h.0) (all_mapped P test f step xs h.1)

pub all_numbered : {X : Type 0} (P : X → Type 0) (k : ℕ) (xs : List X) → AllByRecursion P xs → AllByRecursion (λ (x : ℕ × X). P x.1) (enumerate_from k xs)
all_numbered P k [] h = tt
all_numbered P k (x ∷ xs) h = (h.0, all_numbered P (k + 1) xs h.1)
