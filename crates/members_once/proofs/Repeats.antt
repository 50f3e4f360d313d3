-- Lists in which nothing is repeated.
use Rattle.std.proofs.Common.{◌≡◌, ℕ, ◌&&◌, ◌||◌, not, Bool, true, false, cond, if◌then◌else◌, List, [], ◌∷◌, ◌++◌, map, filter, refl, ap, sym, ◌∙◌, inl, inr}
use Rattle.std.proofs.lemmas.Bool.{and_parts, cases_Bool, false≢true}
use Rattle.std.proofs.lemmas.Slice.Eq.{bytes_eq-Decides}
use Rattle.std.specs.List.{list_any}
use Rattle.std.specs.Str.{bytes_eq}
use Rattle.assembly_tree.specs.WellFormedNames.{all_differ}
use Rattle.source_model.specs.DeclaredTwice.{repeats_after, repeats}

module _ {X : Type 0} (same : X → X → Bool) where
  -- none of these is the same as one of those before
  abbrev AllNew : List X → List X → Type 0
  AllNew before [] = Unit {0}
  AllNew before (x ∷ xs) = (list_any (same x) before ≡ false) × AllNew before xs

  any_behind : (x y : X) (before : List X) → list_any (same x) before ≡ false → same x y ≡ false → list_any (same x) (before ++ y ∷ []) ≡ false
  any_behind x y [] h k = ap (λ c. c || false) k
  any_behind x y (z ∷ zs) h k = let hs = neither (same x z) (list_any (same x) zs) h in ap (λ c. c || list_any (same x) (zs ++ y ∷ [])) hs.0 ∙ any_behind x y zs hs.1 k
    where
      neither : (b c : Bool) → (b || c) ≡ false → (b ≡ false) × (c ≡ false)
      neither true c i = absurd (false≢true (sym i))
      neither false c i = (refl, i)

  not_true : (b : Bool) → not b ≡ true → b ≡ false
  not_true true h = absurd (false≢true h)
  not_true false h = refl

  new_behind : (before : List X) (y : X) (xs : List X) → AllNew before xs → list_any (λ x. same x y) xs ≡ false → AllNew (before ++ y ∷ []) xs
  new_behind before y [] h k = tt
  new_behind before y (x ∷ xs) h k = let ks = neither (same x y) (list_any (λ z. same z y) xs) k in (any_behind x y before h.0 ks.0, new_behind before y xs h.1 ks.1)
    where
      neither : (b c : Bool) → (b || c) ≡ false → (b ≡ false) × (c ≡ false)
      neither true c i = absurd (false≢true (sym i))
      neither false c i = (refl, i)

  none_after : (before xs : List X) → AllNew before xs → all_differ (λ x y. same y x) xs ≡ true → repeats_after same before xs ≡ []
  none_after before [] h d = refl
  none_after before (x ∷ xs) h d =
      let ds = and_parts (not (list_any (λ y. same y x) xs)) (all_differ (λ y z. same z y) xs) d in
      ap (λ (c : Bool). (if c then x ∷ [] else []) ++ repeats_after same (before ++ x ∷ []) xs) h.0
      ∙ none_after (before ++ x ∷ []) xs (new_behind before x xs h.1 (not_true _ ds.0)) ds.1

  all_new : (xs : List X) → AllNew [] xs
  all_new [] = tt
  all_new (x ∷ xs) = (refl, all_new xs)

  pub no_repeats : (xs : List X) → all_differ (λ x y. same y x) xs ≡ true → repeats same xs ≡ []
  no_repeats xs d = none_after [] xs (all_new xs) d

-- ---- by what is said of them

any_mapped : {X Y : Type 0} (test : Y → Bool) (g : X → Y) (xs : List X) → list_any (λ x. test (g x)) xs ≡ list_any test (map g xs)
any_mapped test g [] = refl
any_mapped test g (x ∷ xs) = ap (λ c. test (g x) || c) (any_mapped test g xs)

pub differ_mapped : {X Y : Type 0} (test : Y → Y → Bool) (g : X → Y) (xs : List X) → all_differ (λ x y. test (g x) (g y)) xs ≡ all_differ test (map g xs)
differ_mapped test g [] = refl
differ_mapped test g (x ∷ xs) =
    ap (λ c. not c && all_differ (λ y z. test (g y) (g z)) xs) (any_mapped (test (g x)) g xs) ∙ ap (λ c. not (list_any (test (g x)) (map g xs)) && c) (differ_mapped test g xs)

pub none_pass : {X Y : Type 0} (test : Y → Bool) (g : X → Y) (xs : List X) → list_any test (map g xs) ≡ false → filter (λ x. test (g x)) xs ≡ []
none_pass test g [] h = refl
none_pass test g (x ∷ xs) h =
    let hs = neither (test (g x)) (list_any test (map g xs)) h in
    ap (λ (c : Bool). cond c (x ∷ filter (λ y. test (g y)) xs) (filter (λ y. test (g y)) xs)) hs.0 ∙ none_pass test g xs hs.1
  where
    neither : (b c : Bool) → (b || c) ≡ false → (b ≡ false) × (c ≡ false)
    neither true c i = absurd (false≢true (sym i))
    neither false c i = (refl, i)

-- ---- texts

pub text_turned : (x y : List ℕ) → bytes_eq x y ≡ bytes_eq y x
text_turned x y = elim (cases_Bool (bytes_eq x y)) [
  | inl is ↦ is ∙ sym ((bytes_eq-Decides y x).1 (sym ((bytes_eq-Decides x y).0 is)))
  | inr other ↦ elim (cases_Bool (bytes_eq y x)) [
    | inl is ↦ absurd (false≢true (sym other ∙ (bytes_eq-Decides x y).1 (sym ((bytes_eq-Decides y x).0 is))))
    | inr apart ↦ other ∙ sym apart
  ]
]

-- texts that all differ, whichever way they are asked
pub differ_turned : (xs : List (List ℕ)) → all_differ bytes_eq xs ≡ all_differ (λ x y. bytes_eq y x) xs
differ_turned xs i = all_differ (λ x y. text_turned x y i) xs

-- ---- some of a list

module _ {X : Type 0} (test : X → X → Bool) (pass : X → Bool) where
  both_not : (b c : Bool) → not (b || c) ≡ true → (b ≡ false) × (not c ≡ true)
  both_not true c j = absurd (false≢true j)
  both_not false c j = (refl, j)

  fewer : (x : X) (ys : List X) → not (list_any (test x) ys) ≡ true → not (list_any (test x) (filter pass ys)) ≡ true
  fewer x [] i = refl
  fewer x (y ∷ ys) i = let hs = both_not (test x y) (list_any (test x) ys) i in of (pass y) hs.0 (fewer x ys hs.1)
    where
      of : (c : Bool) → test x y ≡ false → not (list_any (test x) (filter pass ys)) ≡ true → not (list_any (test x) (cond c (y ∷ filter pass ys) (filter pass ys))) ≡ true
      of true j k = ap (λ b. not (b || list_any (test x) (filter pass ys))) j ∙ k
      of false j k = k

  pub differ_some : (xs : List X) → all_differ test xs ≡ true → all_differ test (filter pass xs) ≡ true
  differ_some [] h = refl
  differ_some (x ∷ xs) h =
      let hs = and_parts (not (list_any (test x) xs)) (all_differ test xs) h in by (pass x) (fewer x xs hs.0) (differ_some xs hs.1)
    where
      by : (c : Bool) → not (list_any (test x) (filter pass xs)) ≡ true → all_differ test (filter pass xs) ≡ true → all_differ test (cond c (x ∷ filter pass xs) (filter pass xs)) ≡ true
      by true i j = ap (λ b. b && all_differ test (filter pass xs)) i ∙ j
      by false i j = j
