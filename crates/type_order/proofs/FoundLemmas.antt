-- What was found out of types, as the pool and what is kept grow.
use Rattle.std.proofs.Common.{◌≡◌, ◌⊎◌, inl, inr, refl, sym, ◌∙◌, ap, subst, ℕ, zero, suc, ◌<◌, ◌↔◌, arith, List, [], ◌∷◌, ◌++◌, length, slice_get, slice_set, Option, None, Some}
use Rattle.std.specs.List.{Contains}
use Rattle.std.proofs.lemmas.List.{append-nil}
use Rattle.type_terms.specs.declared.term.SigType.{SigType}
use Rattle.sig_pool.specs.declared.node.Node.{Node}
use Rattle.sig_pool.specs.Pool.{Extends}
use Rattle.sig_pool.specs.Terms.{AllBelow, term_of}
use Rattle.type_hierarchy.specs.Hierarchy.{Hierarchy, parent, Chain}
use Rattle.type_hierarchy.specs.Pooled.{HasOption}
use Rattle.type_hierarchy.specs.Queues.{HasType}
use Rattle.type_hierarchy.specs.Tables.{hierarchy_in}
use Rattle.type_hierarchy.specs.World.{KnowsParents}
use Rattle.type_hierarchy.specs.declared.tables.Tables.{Tables}
use Rattle.type_hierarchy.proofs.GrowLemmas.{extends_long, below_extends, has_extends}
use Rattle.type_hierarchy.proofs.KeptLemmas as kept
use Rattle.type_order.specs.Found.{HasDepth, IsStanding, IsLedTo, AreLed, IsOwn, Puts, Knows, IsReady}
use Rattle.type_order.specs.declared.found.Found.{Found}
use Rattle.type_order.specs.declared.found.Own.{Own}
use Rattle.type_order.specs.declared.found.Standing.{Standing}
use Rattle.type_order.proofs.WalkLemmas.{within_one}

-- ---- an item that is put at a place

pub push_none : {X : Type 0} (xs : List (Option X)) (k : ℕ) (p : X) → slice_get (xs ++ None ∷ []) k ≡ Some (Some p) → slice_get xs k ≡ Some (Some p)
push_none [] zero p e = absurd (let h : ⊥ = cc in h)
push_none [] (suc k) p e = absurd (let h : ⊥ = cc in h)
push_none (x ∷ xs) zero p e = e
push_none (x ∷ xs) (suc k) p e = push_none xs k p e

inner : {X : Type 0} {x y : X} → Some (Some x) ≡ Some (Some y) → x ≡ y
inner e = cc

set_cases : {X : Type 0} (xs : List (Option X)) (i k : ℕ) (p q : X) → slice_get (slice_set xs i (Some q)) k ≡ Some (Some p) → (slice_get xs k ≡ Some (Some p)) ⊎ ((k ≡ i) × (p ≡ q))
set_cases [] i k p q e = inl e
set_cases (x ∷ xs) zero zero p q e = inr (refl, sym (inner e))
set_cases (x ∷ xs) zero (suc k) p q e = inl e
set_cases (x ∷ xs) (suc i) zero p q e = inl e
set_cases (x ∷ xs) (suc i) (suc k) p q e =
    elim (set_cases xs i k p q e) [ inl h ↦ inl h | inr h ↦ inr (ap suc h.0, h.1) ]

-- nothing more is there, and then one item is put
pub puts : {X : Type 0} (old middle new : List (Option X)) (place : ℕ) (item : X)
    → ((k : ℕ) (x : X) → slice_get middle k ≡ Some (Some x) → slice_get old k ≡ Some (Some x)) → new ≡ slice_set middle place (Some item) → Puts old new place item
puts {X} old middle new place item h e k x f = elim (set_cases middle place k x item (subst (λ (l : List (Option X)). slice_get l k ≡ Some (Some x)) e f)) [
  | inl g ↦ inl (h k x g)
  | inr g ↦ inr g
]

-- ---- as the pool grows

pub extends_self : (ns : List Node) → Extends ns ns
extends_self ns = record { more = []; nodes = sym (append-nil ns); terms = λ k h. refl }

pub standing_more : (w : Hierarchy) (ns ms : List Node) (id : ℕ) (s : Standing) → Extends ns ms → IsStanding w ns id s → IsStanding w ms id s
standing_more w ns ms id s x h =
    let l = extends_long ns ms x in
    let here = sym (x.terms id h.within) in
    let there = sym (x.terms s.jump h.jump) in
    record {
      within = let g = h.within in omega arith;
      depth = subst (λ (t : SigType). HasDepth w t s.depth) here h.depth;
      jump = let g = h.jump in omega arith;
      chain = subst (λ (t : SigType). Chain w t (term_of ms s.jump)) here (subst (λ (t : SigType). Chain w (term_of ns id) t) there h.chain);
      reach = subst (λ (t : SigType). HasDepth w t s.reach) there h.reach;
    }

types_more : (ns ms : List Node) (ids : List ℕ) (t : SigType) → Extends ns ms → AllBelow (length ns) ids → HasType ns ids t ↔ HasType ms ids t
types_more ns ms ids t x p = (
  λ h. record { id = h.id; among = h.among; is = x.terms h.id (within_one ids (length ns) h.id p h.among) ∙ h.is },
  λ h. record { id = h.id; among = h.among; is = sym (x.terms h.id (within_one ids (length ns) h.id p h.among)) ∙ h.is },
)

pub led_more : (w : Hierarchy) (ns ms : List Node) (id : ℕ) (ids : List ℕ) → Extends ns ms → AreLed w ns id ids → AreLed w ms id ids
led_more w ns ms id ids x h =
    let l = extends_long ns ms x in
    let here = x.terms id h.within in
    record {
      within = let g = h.within in omega arith;
      all = below_extends ns ms ids x h.all;
      exact = λ t.
          let m = types_more ns ms ids t x h.all in
          (λ a. subst (λ (s : SigType). IsLedTo w s t) (sym here) ((h.exact t).0 (m.1 a)), λ a. m.0 ((h.exact t).1 (subst (λ (s : SigType). IsLedTo w s t) here a)));
    }

pub own_more : (w : Hierarchy) (ns ms : List Node) (o : Own) → Extends ns ms → IsOwn w ns o → IsOwn w ms o
own_more w ns ms o x h = record { class = has_extends ns ms o.class _ h.class x; pointer = has_extends ns ms o.pointer _ h.pointer x }

pub knows_more : (w : Hierarchy) (ns ms : List Node) (f : Found) → Extends ns ms → Knows w ns f → Knows w ms f
knows_more w ns ms f x h = record {
  parents = kept.knows_more w ns ms f.parents x h.parents;
  standings = λ id s e. standing_more w ns ms id s x (h.standings id s e);
  led = λ id ids e. led_more w ns ms id ids x (h.led id ids e);
  own = λ o e. own_more w ns ms o x (h.own o e);
}

-- a world whose pool grew
pub ready_more : (ns ms : List Node) (t : Tables) (f : Found) → IsReady ns t f → Extends ns ms → IsReady ms t f
ready_more ns ms t f r x = record { paired = r.paired; known = knows_more (hierarchy_in t) ns ms f x r.known }

-- the parents alone change, and the pool grows
pub knows_parents : (w : Hierarchy) (ns ms : List Node) (f : Found) (new : List (Option ℕ)) → Extends ns ms → Knows w ns f → KnowsParents w ms new → Knows w ms (record f { parents = new })
knows_parents w ns ms f new x h p =
    let m = knows_more w ns ms f x h in
    record { parents = p; standings = m.standings; led = m.led; own = m.own }

-- ---- as more is kept

pub noted_standing : (w : Hierarchy) (ns : List Node) (f : Found) (new : List (Option Standing)) (id : ℕ) (s : Standing) → Knows w ns f → IsStanding w ns id s → Puts f.standings new id s
    → Knows w ns (record f { standings = new })
noted_standing w ns f new id s h is p = record {
  parents = h.parents;
  standings = λ k x e. elim (p k x e) [
    | inl g ↦ h.standings k x g
    | inr g ↦ subst (λ (y : Standing). IsStanding w ns k y) (sym g.1) (subst (λ (j : ℕ). IsStanding w ns j s) (sym g.0) is)
  ];
  led = h.led;
  own = h.own;
}

pub noted_led : (w : Hierarchy) (ns : List Node) (f : Found) (new : List (Option (List ℕ))) (id : ℕ) (ids : List ℕ) → Knows w ns f → AreLed w ns id ids → Puts f.led new id ids
    → Knows w ns (record f { led = new })
noted_led w ns f new id ids h is p = record {
  parents = h.parents;
  standings = h.standings;
  led = λ k x e. elim (p k x e) [
    | inl g ↦ h.led k x g
    | inr g ↦ subst (λ (y : List ℕ). AreLed w ns k y) (sym g.1) (subst (λ (j : ℕ). AreLed w ns j ids) (sym g.0) is)
  ];
  own = h.own;
}

pub noted_own : (w : Hierarchy) (ns : List Node) (f : Found) (o : Own) → Knows w ns f → IsOwn w ns o → Knows w ns (record f { own = Some o })
noted_own w ns f o h is = record {
  parents = h.parents;
  standings = h.standings;
  led = h.led;
  own = λ p e. subst (λ (q : Own). IsOwn w ns q) (only p e) is;
}
  where
    only : (p : Own) → Some o ≡ Some p → o ≡ p
    only p e = cc
