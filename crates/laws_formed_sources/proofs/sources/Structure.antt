-- The classes of a faultless source, each with those that it nests, are well formed (ECMA-335 II.10).
use Rattle.std.proofs.Common.{◌≡◌, ◌⊎◌, inl, inr, List, [], ◌∷◌, ◌++◌, Some, cond, map, ap, sym, subst, ◌∙◌}
use Rattle.std.specs.Prelude.{Bool, true, false, not, ◌==◌, ◌||◌, find, is_some}
use Rattle.std.specs.List.{AllByRecursion, list_any}
use Rattle.std.proofs.lemmas.Bool.{and_from, and_parts, cases_Bool}
use Rattle.assembly_tree.specs.declared.typedef.TypeDef.{TypeDef}
use Rattle.assembly_tree.specs.declared.typedef.TypeDef.TheViews.{out-TypeDef}
use Rattle.assembly_tree.specs.WellFormedNames.{all_differ}
use Rattle.assembly_tree.specs.WellFormedTypes.{is_same_id}
use Rattle.ilasm_grammar.specs.declared.productions.TheConstants.{CLASS}
use Rattle.source_model.specs.Classes.{class_from, classes_in}
use Rattle.source_model.specs.Forest.{Forest, none, leaf, branch}
use Rattle.source_model.specs.Nodes.{Around, entered}
use Rattle.source_model.specs.Source.{Source}
use Rattle.laws_formed_sources.proofs.sources.ClassPlaces.{class_id, classes_leaf, classes_none, classes_other, classes_own, id_is, named_in, paths_at, paths_in}
use Rattle.laws_formed_sources.proofs.sources.Members.{Apart, In, apart_back, apart_front, apart_sides, in_back, in_front}

-- ---- ids that differ

any_found : {X : Type 0} (test : X → Bool) (xs : List X) → list_any test xs ≡ true → is_some (find test xs) ≡ true
any_found test [] e = absurd cc
any_found test (x ∷ xs) e = elim (cases_Bool (test x)) [
  | inl is ↦ ap (λ (c : Bool). is_some (cond c (Some x) (find test xs))) is
  | inr other ↦
      ap (λ (c : Bool). is_some (cond c (Some x) (find test xs))) other
      ∙ any_found test xs (sym (ap (λ (c : Bool). c || list_any test xs) other) ∙ e)
]

no_such : {X : Type 0} (test : X → Bool) (xs : List X) → (list_any test xs ≡ true → ⊥) → not (list_any test xs) ≡ true
no_such test xs h = elim (cases_Bool (list_any test xs)) [
  | inl is ↦ absurd (h is)
  | inr other ↦ ap (λ c. not c) other
]

any_joined : {X : Type 0} (test : X → Bool) (xs ys : List X) → list_any test (xs ++ ys) ≡ true → (list_any test xs ≡ true) ⊎ (list_any test ys ≡ true)
any_joined test [] ys e = inr e
any_joined test (x ∷ xs) ys e = elim (cases_Bool (test x)) [
  | inl is ↦ inl (ap (λ (c : Bool). c || list_any test xs) is)
  | inr other ↦ elim (any_joined test xs ys (sym (ap (λ (c : Bool). c || list_any test (xs ++ ys)) other) ∙ e)) [
    | inl h ↦ inl (ap (λ (c : Bool). c || list_any test xs) other ∙ h)
    | inr h ↦ inr h
  ]
]

differ_joined : {X : Type 0} (same : X → X → Bool) (P : X → Type 0) (xs ys : List X) → AllByRecursion P xs → ((x : X) → P x → list_any (same x) ys ≡ true → ⊥)
    → all_differ same xs ≡ true → all_differ same ys ≡ true → all_differ same (xs ++ ys) ≡ true
differ_joined same P [] ys h apart i j = j
differ_joined same P (x ∷ xs) ys h apart i j =
    let both = and_parts (not (list_any (same x) xs)) (all_differ same xs) i in
    and_from (not (list_any (same x) (xs ++ ys))) (all_differ same (xs ++ ys))
    (no_such (same x) (xs ++ ys) (λ e. elim (any_joined (same x) xs ys e) [
      | inl k ↦ let n : true ≡ false = sym both.0 ∙ ap (λ c. not c) k in absurd cc
      | inr k ↦ apart x h.0 k
    ]))
    (differ_joined same P xs ys h.1 apart both.1 j)

module _ (s : Source) where
  abbrev HasPath : Forest → TypeDef → Type 0
  HasPath f t = In ((out-TypeDef t).id ∷ []) (paths_in s f)

  all_have : {X : Type 0} (P Q : X → Type 0) (xs : List X) → ((x : X) → P x → Q x) → AllByRecursion P xs → AllByRecursion Q xs
  all_have P Q [] step h = tt
  all_have P Q (x ∷ xs) step h = (step x h.0, all_have P Q xs step h.1)

  both_have : {X : Type 0} (P : X → Type 0) (xs ys : List X) → AllByRecursion P xs → AllByRecursion P ys → AllByRecursion P (xs ++ ys)
  both_have P [] ys h i = i
  both_have P (x ∷ xs) ys h i = (h.0, both_have P xs ys h.1 i)

  have_paths : (a : Around) (f : Forest) → AllByRecursion (HasPath f) (classes_in s a f)
  have_paths a none = subst (AllByRecursion (HasPath none)) (sym (classes_none s a)) tt
  have_paths a (leaf k f) = subst (AllByRecursion (HasPath (leaf k f))) (sym (classes_leaf s a k f)) (have_paths a f)
  have_paths a (branch p b f) = elim (cases_Bool (p == CLASS)) [
    | inl own ↦
        let t = class_from s (entered s a p b) b (classes_in s (entered s a p b) b) in
        let id-is = id_is s (entered s a p b) b (classes_in s (entered s a p b) b) in
        subst (AllByRecursion (HasPath (branch p b f))) (sym (classes_own s a p b f own)) (
          subst (λ (c : Bool). In ((out-TypeDef t).id ∷ []) (paths_at s c b (paths_in s b) ++ paths_in s f)) (sym own) (inl (ap (λ i. i ∷ []) (sym id-is))),
          all_have (HasPath f) (HasPath (branch p b f)) (classes_in s a f) (λ u h. in_back ((out-TypeDef u).id ∷ []) (paths_at s (p == CLASS) b (paths_in s b)) (paths_in s f) h) (have_paths a f),
        )
    | inr other ↦
        subst (AllByRecursion (HasPath (branch p b f))) (sym (classes_other s a p b f other))
        (both_have (HasPath (branch p b f)) (classes_in s a b) (classes_in s a f)
        (all_have (HasPath b) (HasPath (branch p b f)) (classes_in s a b)
        (λ u h. subst (λ (c : Bool). In ((out-TypeDef u).id ∷ []) (paths_at s c b (paths_in s b) ++ paths_in s f)) (sym other) (in_front ((out-TypeDef u).id ∷ []) (paths_in s b) (paths_in s f) h))
        (have_paths a b))
        (all_have (HasPath f) (HasPath (branch p b f)) (classes_in s a f) (λ u h. in_back ((out-TypeDef u).id ∷ []) (paths_at s (p == CLASS) b (paths_in s b)) (paths_in s f) h) (have_paths a f)))
  ]

  pub ids_differ : (a : Around) (f : Forest) → Apart (paths_in s f) → all_differ is_same_id (classes_in s a f) ≡ true
  ids_differ a none h = ap (all_differ is_same_id) (classes_none s a)
  ids_differ a (leaf k f) h = ap (all_differ is_same_id) (classes_leaf s a k f) ∙ ids_differ a f h
  ids_differ a (branch p b f) h = elim (cases_Bool (p == CLASS)) [
    | inl own ↦
        let t = class_from s (entered s a p b) b (classes_in s (entered s a p b) b) in
        let id-is = id_is s (entered s a p b) b (classes_in s (entered s a p b) b) in
        let apart : Apart (paths_at s true b (paths_in s b) ++ paths_in s f) = subst (λ (c : Bool). Apart (paths_at s c b (paths_in s b) ++ paths_in s f)) own h in
        ap (all_differ is_same_id) (classes_own s a p b f own)
        ∙ and_from (not (list_any (is_same_id t) (classes_in s a f))) (all_differ is_same_id (classes_in s a f))
        (no_such (is_same_id t) (classes_in s a f) (λ e.
        apart.0 (in_back (class_id s b ∷ []) (map (λ q. class_id s b ∷ q) (paths_in s b)) (paths_in s f)
        (subst (λ i. In (i ∷ []) (paths_in s f)) id-is (named_in s a f (out-TypeDef t).id (any_found (is_same_id t) (classes_in s a f) e))))))
        (ids_differ a f (apart_back (paths_at s true b (paths_in s b)) (paths_in s f) apart))
    | inr other ↦
        let apart : Apart (paths_in s b ++ paths_in s f) = subst (λ (c : Bool). Apart (paths_at s c b (paths_in s b) ++ paths_in s f)) other h in
        ap (all_differ is_same_id) (classes_other s a p b f other)
        ∙ differ_joined is_same_id (HasPath b) (classes_in s a b) (classes_in s a f) (have_paths a b)
        (λ t i e. apart_sides (paths_in s b) (paths_in s f) apart ((out-TypeDef t).id ∷ []) i (named_in s a f (out-TypeDef t).id (any_found (is_same_id t) (classes_in s a f) e)))
        (ids_differ a b (apart_front (paths_in s b) (paths_in s f) apart)) (ids_differ a f (apart_back (paths_in s b) (paths_in s f) apart))
  ]
