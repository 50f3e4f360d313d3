-- The ids of a queue and the set of their places.
use Rattle.std.proofs.Common.{◌≡◌, ◌∙◌, inl, inr, sym, ap, subst, refl, ℕ, Bool, true, false, List, [], ◌∷◌, ◌++◌}
use Rattle.std.specs.Prelude.{cond, nat_eq}
use Rattle.std.specs.List.{Contains}
use Rattle.std.proofs.lemmas.Bool.{cases_Bool, eqb-true, eq-eqb}
use Rattle.std.proofs.lemmas.List.Elements.{Contains-append_left, Contains-push, Contains-push_cases}

-- an id more in both
module _ (ids new : List ℕ) (id place : ℕ) (has now : ℕ → Bool) (both : (k : ℕ) → (has k ≡ true → Contains ids k) × (Contains ids k → has k ≡ true)) (e : new ≡ ids ++ id ∷ []) (p : place ≡ id)
    (u : (q : ℕ) → now q ≡ cond (nat_eq place q) true (has q)) where
  forward : (k : ℕ) → now k ≡ true → Contains new k
  forward k h = elim (cases_Bool (nat_eq place k)) [
    | inl t ↦ subst (λ (j : ℕ). Contains new j) (sym p ∙ eqb-true place k t) (subst (λ (l : List ℕ). Contains l id) (sym e) (Contains-push ids id))
    | inr f ↦
        let old : has k ≡ true = sym (u k ∙ ap (λ b. cond b true (has k)) f) ∙ h in
        subst (λ (l : List ℕ). Contains l k) (sym e) (Contains-append_left ids (id ∷ []) k ((both k).0 old))
  ]

  backward : (k : ℕ) → Contains new k → now k ≡ true
  backward k c = elim (Contains-push_cases ids id k (subst (λ (l : List ℕ). Contains l k) e c)) [
    | inl d ↦ u k ∙ ap (λ b. cond (nat_eq place k) true b) ((both k).1 d) ∙ always (nat_eq place k)
    | inr d ↦ u k ∙ ap (λ b. cond b true (has k)) (eq-eqb place k (p ∙ d))
  ]
    where
      always : (b : Bool) → cond b true true ≡ true
      always true = refl
      always false = refl

  pub queue_both : (k : ℕ) → (now k ≡ true → Contains new k) × (Contains new k → now k ≡ true)
  queue_both k = (forward k, backward k)
