-- The token of a term among entries with terms and tokens, and one entry more.
use base.Stored.{Gv, gnil, gnum, gcons, Coded}
use Rattle.std.proofs.Common.{◌≡◌, ap, refl, sym, ◌∙◌, subst, ℕ, zero, suc, ◌<◌, true, ◌&&◌, cond, List, [], ◌∷◌, ◌++◌, map, take, length, Option, Some, None, true≢false, nat_eq, inl, inr, arith}
use Rattle.std.specs.Prelude.{slice_get}
use Rattle.std.specs.Cmp.{first_so, second_so}
use Rattle.std.proofs.lemmas.List.{take_at, length-map}
use Rattle.std.proofs.lemmas.Bool.{eq-eqb, eqb-true, cases_Bool}
use Rattle.image_tokens.specs.Chains.{IsChained}
use Rattle.image_tokens.specs.Found.{same_stored, same_term, token_in}
use Rattle.image_tokens.proofs.ChainLemmas.{IsChained-push}

-- what is stored is told apart exactly
stored_exact : (a b : Gv) → same_stored a b ≡ true → a ≡ b
stored_exact gnil gnil h = refl
stored_exact gnil (gnum n) h = absurd (true≢false (sym h))
stored_exact gnil (gcons c d) h = absurd (true≢false (sym h))
stored_exact (gnum m) gnil h = absurd (true≢false (sym h))
stored_exact (gnum m) (gnum n) h = ap gnum (eqb-true m n h)
stored_exact (gnum m) (gcons c d) h = absurd (true≢false (sym h))
stored_exact (gcons a b) gnil h = absurd (true≢false (sym h))
stored_exact (gcons a b) (gnum n) h = absurd (true≢false (sym h))
stored_exact (gcons a b) (gcons c d) h =
    let p = stored_exact a c (first_so (same_stored a c) (same_stored b d) h) in
    let q = stored_exact b d (second_so (same_stored a c) (same_stored b d) h) in
    λ i. gcons (p i) (q i)

stored_itself : (a : Gv) → same_stored a a ≡ true
stored_itself gnil = refl
stored_itself (gnum n) = eq-eqb n n refl
stored_itself (gcons a b) = λ i. stored_itself a i && stored_itself b i

pub exact : {T : Type 0} (coded : Coded T) (a b : T) → same_term coded a b ≡ true → a ≡ b
unfolding same_term
exact coded a b h = coded.inj a b (stored_exact (coded.code a) (coded.code b) h)

pub itself : {T : Type 0} (coded : Coded T) (a b : T) → a ≡ b → same_term coded a b ≡ true
unfolding same_term
itself {T} coded a b e = subst (λ (y : T). same_stored (coded.code a) (coded.code y) ≡ true) e (stored_itself (coded.code a))

-- an item of a mapped list
pub at_map : {A B : Type 0} (f : A → B) (xs : List A) (k : ℕ) (x : A) → slice_get xs k ≡ Some x → slice_get (map f xs) k ≡ Some (f x)
at_map f [] k x h = absurd cc
at_map f (y ∷ xs) zero x h = let e : y ≡ x = cc in ap (λ z. Some (f z)) e
at_map f (y ∷ xs) (suc k) x h = at_map f xs k x h

pub map_end : {A B : Type 0} (f : A → B) (xs : List A) (x : A) → map f (xs ++ x ∷ []) ≡ map f xs ++ f x ∷ []
map_end f [] x = refl
map_end f (y ∷ xs) x = ap (λ t. f y ∷ t) (map_end f xs x)

pub cond_other : (h q : ℕ) (x y : Option ℕ) → (q ≡ h → ⊥) → cond (nat_eq h q) x y ≡ y
cond_other h q x y n = elim (cases_Bool (nat_eq h q)) [
  | inl e ↦ absurd (n (sym (eqb-true h q e)))
  | inr e ↦ ap (λ b. cond b x y) e
]

module _ {E T : Type 0} (term : E → T) (token : E → ℕ) (coded : Coded T) where
  abbrev pairs : List E → List (T × ℕ)
  pairs es = map (λ e. (term e, token e)) es

  -- the first entry with the term is the one that counts
  first_in : (es : List E) (k : ℕ) (e : E) (x : T) → slice_get es k ≡ Some e → same_term coded (term e) x ≡ true
      → ((j : ℕ) → j < k → slice_get (map term es) j ≡ Some x → ⊥) → token_in coded (pairs es) x ≡ Some (token e)
  first_in [] k e x at is before = absurd cc
  first_in (d ∷ es) zero e x at is before =
      let here : d ≡ e = cc in
      ap (λ z. cond (same_term coded (term z) x) (Some (token z)) (token_in coded (pairs es) x)) here ∙ ap (λ b. cond b (Some (token e)) (token_in coded (pairs es) x)) is
  first_in (d ∷ es) (suc k) e x at is before = elim (cases_Bool (same_term coded (term d) x)) [
    | inl is_so ↦ absurd (before 0 (omega arith) (ap Some (exact coded (term d) x is_so)))
    | inr not_so ↦ ap (λ b. cond b (Some (token d)) (token_in coded (pairs es) x)) not_so
        ∙ first_in es k e x at is (λ j less there. before (suc j) (omega arith) there)
  ]

  pub found_in : (es : List E) (k : ℕ) (e : E) (x : T) → ((i j : ℕ) (c : T) → slice_get (map term es) i ≡ Some c → slice_get (map term es) j ≡ Some c → i ≡ j)
      → slice_get es k ≡ Some e → term e ≡ x → token_in coded (pairs es) x ≡ Some (token e)
  found_in es k e x distinct at is =
      let there : slice_get (map term es) k ≡ Some x = at_map term es k e at ∙ ap Some is in
      first_in es k e x at (itself coded (term e) x is) (λ j less other. let eq = distinct j k x other there in absurd (omega arith))

  pub missing_in : (es : List E) (x : T) → ((k : ℕ) → slice_get (map term es) k ≡ Some x → ⊥) → token_in coded (pairs es) x ≡ None
  missing_in [] x none = refl
  missing_in (d ∷ es) x none = elim (cases_Bool (same_term coded (term d) x)) [
    | inl is_so ↦ absurd (none 0 (ap Some (exact coded (term d) x is_so)))
    | inr not_so ↦ ap (λ b. cond b (Some (token d)) (token_in coded (pairs es) x)) not_so ∙ missing_in es x (λ k h. none (suc k) h)
  ]

  pub absent_from : (es : List E) (x : T) → token_in coded (pairs es) x ≡ None → (k : ℕ) → slice_get (map term es) k ≡ Some x → ⊥
  absent_from [] x none k h = cc
  absent_from (d ∷ es) x none zero h =
      let here : term d ≡ x = cc in
      let is_so : same_term coded (term d) x ≡ true = itself coded (term d) x here in
      let some : Some (token d) ≡ None = sym (ap (λ b. cond b (Some (token d)) (token_in coded (pairs es) x)) is_so) ∙ none in
      cc
  absent_from (d ∷ es) x none (suc k) h = elim (cases_Bool (same_term coded (term d) x)) [
    | inl is_so ↦
        let some : Some (token d) ≡ None = sym (ap (λ b. cond b (Some (token d)) (token_in coded (pairs es) x)) is_so) ∙ none in
        cc
    | inr not_so ↦ absent_from es x (sym (ap (λ b. cond b (Some (token d)) (token_in coded (pairs es) x)) not_so) ∙ none) k h
  ]

  module _ (hash : T → ℕ) (next : E → Option ℕ) where
    pub found_push : (newest later : ℕ → Option ℕ) (es all : List E) (e : E) (place : ℕ)
        → IsChained hash newest (map term es) (map next es) → token_in coded (pairs es) (term e) ≡ None
        → all ≡ es ++ e ∷ [] → place ≡ length es → next e ≡ newest (hash (term e))
        → ((q : ℕ) → later q ≡ cond (nat_eq (hash (term e)) q) (Some place) (newest q))
        → IsChained hash later (map term all) (map next all)
    found_push newest later es all e place ok none is at link more =
        let h : ℕ = hash (term e) in
        rw (is, map_end term es e, map_end next es e, link)
        (IsChained-push hash newest later (map term es) (map next es) (term e) ok (absent_from es (term e) none)
        (more h ∙ ap (λ b. cond b (Some place) (newest h)) (eq-eqb h h refl) ∙ ap Some (at ∙ sym (length-map es term)))
        (λ q n. more q ∙ cond_other h q _ _ n))

    pub found_undo : (newest later : ℕ → Option ℕ) (es all : List E) (e : E) (place : ℕ)
        → IsChained hash newest (map term es) (map next es) → ((q : ℕ) → later q ≡ newest q) → place ≡ length es → all ≡ es ++ e ∷ []
        → IsChained hash later (map term (take place all)) (map next (take place all))
    found_undo newest later es all e place ok kept at is =
        let keeps : later ≡ newest = λ i q. kept q i in
        let back : take place all ≡ es = rw is (take_at es (e ∷ []) place (sym at)) in
        rw (keeps, back) ok
