-- Ids that are added to others.
use Rattle.std.proofs.Common.{◌≡◌, inl, inr, sym, ◌∙◌, ap, subst, ℕ, zero, suc, ◌+◌, ◌<◌, arith, List, [], ◌∷◌, ◌++◌, length, take, get_or}
use Rattle.std.specs.List.{Contains}
use Rattle.std.proofs.lemmas.List.{append_assoc, append-nil, take_more}
use Rattle.std.proofs.lemmas.List.Elements.{Contains-append_left, Contains-append_cases, Contains-push, Contains-push_cases}
use Rattle.type_hierarchy.specs.Queues.{IsAdded, AddsAll}

pub no_ids : (k : ℕ) → Contains [] k → ⊥
no_ids k (j, h, e) = omega arith

pub adds_none : (old : List ℕ) → AddsAll old old []
adds_none old = record { more = []; is = sym (append-nil old); only = λ k c. absurd (no_ids k c); has = λ k c. absurd (no_ids k c) }

pub adds_one : (old new : List ℕ) (id : ℕ) → IsAdded old new id → AddsAll old new (id ∷ [])
adds_one old new id a = record {
  more = a.more;
  is = a.is;
  only = λ k c. (0, omega arith, sym (a.only k c));
  has = λ k c. one k c;
}
  where
    one : (k : ℕ) → Contains (id ∷ []) k → Contains new k
    one k (zero, h, e) = subst (λ (j : ℕ). Contains new j) e a.has
    one k (suc j, h, e) = absurd (omega arith)

pub adds_more : (old middle new ids : List ℕ) (id : ℕ) → AddsAll old middle ids → IsAdded middle new id → AddsAll old new (ids ++ id ∷ [])
adds_more old middle new ids id a b = record {
  more = a.more ++ b.more;
  is = b.is ∙ ap (λ l. l ++ b.more) a.is ∙ append_assoc old a.more b.more;
  only = λ k c. elim (Contains-append_cases a.more b.more k c) [
    | inl d ↦ Contains-append_left ids (id ∷ []) k (a.only k d)
    | inr d ↦ subst (λ (j : ℕ). Contains (ids ++ id ∷ []) j) (sym (b.only k d)) (Contains-push ids id)
  ];
  has = λ k c. elim (Contains-push_cases ids id k c) [
    | inl d ↦ subst (λ (l : List ℕ). Contains l k) (sym b.is) (Contains-append_left middle b.more k (a.has k d))
    | inr d ↦ subst (λ (j : ℕ). Contains new j) d b.has
  ];
}

pub adds_next : (old middle new ids : List ℕ) (i id : ℕ) → AddsAll old middle (take i ids) → IsAdded middle new id → i < length ids → id ≡ get_or ids i id → AddsAll old new (take (i + 1) ids)
adds_next old middle new ids i id a b h e =
    subst (λ (l : List ℕ). AddsAll old new l) (ap (λ j. take i ids ++ j ∷ []) e ∙ sym (take_more ids i id h)) (adds_more old middle new (take i ids) id a b)
