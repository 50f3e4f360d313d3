-- One more item of a chain, and an item that wasn't kept.
use Rattle.std.proofs.Common.{◌≡◌, ℕ, List, [], ◌∷◌, ◌++◌, Option, Some, cond, length, take, sym, ◌∙◌, ap, refl, inl, inr}
use Rattle.std.specs.Prelude.{slice_get, nat_eq}
use Rattle.std.proofs.lemmas.List.{take_at}
use Rattle.std.proofs.lemmas.Bool.{eq-eqb, eqb-true, cases_Bool}
use Rattle.type_hierarchy.specs.Chains.{IsChained}
use Rattle.type_hierarchy.proofs.ChainLemmas.{IsChained-push}

cond_other : (h q : ℕ) (x y : Option ℕ) → (q ≡ h → ⊥) → cond (nat_eq h q) x y ≡ y
cond_other h q x y n = elim (cases_Bool (nat_eq h q)) [
  | inl e ↦ absurd (n (sym (eqb-true h q e)))
  | inr e ↦ ap (λ b. cond b x y) e
]

module _ {X : Type 0} (hash : X → ℕ) where
  pub names_push : (newest later : ℕ → Option ℕ) (names : List X) (nexts : List (Option ℕ)) (name : X) (place : ℕ) (next : Option ℕ)
      → IsChained hash newest names nexts → ((k : ℕ) → slice_get names k ≡ Some name → ⊥)
      → place ≡ length names → next ≡ newest (hash name)
      → ((q : ℕ) → later q ≡ cond (nat_eq (hash name) q) (Some place) (newest q))
      → IsChained hash later (names ++ name ∷ []) (nexts ++ next ∷ [])
  names_push newest later names nexts name place next ok absent at is more =
      let h : ℕ = hash name in
      rw is (IsChained-push hash newest later names nexts name ok absent
      (more h ∙ ap (λ b. cond b (Some place) (newest h)) (eq-eqb h h refl) ∙ ap Some at)
      (λ q n. more q ∙ cond_other h q _ _ n))

  pub names_undo : (newest later : ℕ → Option ℕ) (names all : List X) (nexts links : List (Option ℕ)) (name : X) (next : Option ℕ) (place : ℕ)
      → IsChained hash newest names nexts → ((q : ℕ) → later q ≡ newest q) → place ≡ length names
      → all ≡ names ++ name ∷ [] → links ≡ nexts ++ next ∷ []
      → IsChained hash later (take place all) (take place links)
  names_undo newest later names all nexts links name next place ok same at e f =
      let keeps : later ≡ newest = λ i q. same q i in
      let names_are : take place all ≡ names = rw e (take_at names (name ∷ []) place (sym at)) in
      let nexts_are : take place links ≡ nexts = rw f (take_at nexts (next ∷ []) place (ok.paired ∙ sym at)) in
      rw (keeps, names_are, nexts_are) ok
