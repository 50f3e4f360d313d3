-- Parents that are kept, as the list of them and the pool grow.
use Rattle.std.proofs.Common.{◌≡◌, ◌⊎◌, inl, inr, refl, sym, ◌∙◌, ap, subst, ℕ, zero, suc, ◌<◌, arith, List, [], ◌∷◌, ◌++◌, length, slice_get, slice_set, Option, None, Some}
use Rattle.sig_pool.specs.declared.node.Node.{Node}
use Rattle.sig_pool.specs.Pool.{Extends}
use Rattle.sig_pool.specs.Terms.{term_of}
use Rattle.type_hierarchy.specs.Hierarchy.{Hierarchy, parent}
use Rattle.type_hierarchy.specs.Pooled.{HasOption}
use Rattle.type_hierarchy.specs.Tables.{hierarchy_in}
use Rattle.type_hierarchy.specs.World.{IsParent, KnowsParents, Notes, IsReady}
use Rattle.type_hierarchy.specs.declared.tables.Tables.{Tables}
use Rattle.type_hierarchy.proofs.GrowLemmas.{extends_long, has_extends}

pub push_none : (xs : List (Option ℕ)) (k p : ℕ) → slice_get (xs ++ None ∷ []) k ≡ Some (Some p) → slice_get xs k ≡ Some (Some p)
push_none [] zero p e = cc
push_none [] (suc k) p e = cc
push_none (x ∷ xs) zero p e = e
push_none (x ∷ xs) (suc k) p e = push_none xs k p e

set_cases : (xs : List (Option ℕ)) (i k p q : ℕ) → slice_get (slice_set xs i (Some q)) k ≡ Some (Some p) → (slice_get xs k ≡ Some (Some p)) ⊎ ((k ≡ i) × (p ≡ q))
set_cases [] i k p q e = inl e
set_cases (x ∷ xs) zero zero p q e = inr (refl, cc)
set_cases (x ∷ xs) zero (suc k) p q e = inl e
set_cases (x ∷ xs) (suc i) zero p q e = inl e
set_cases (x ∷ xs) (suc i) (suc k) p q e =
    elim (set_cases xs i k p q e) [ inl h ↦ inl h | inr h ↦ inr (ap suc h.0, h.1) ]

-- nothing more is known, and then one parent is noted
pub noted : (old middle new : List (Option ℕ)) (id parent_id : ℕ)
    → ((k p : ℕ) → slice_get middle k ≡ Some (Some p) → slice_get old k ≡ Some (Some p)) → new ≡ slice_set middle id (Some parent_id) → Notes old new id parent_id
noted old middle new id q h e k p f = elim (set_cases middle id k p q (subst (λ (l : List (Option ℕ)). slice_get l k ≡ Some (Some p)) e f)) [
  | inl g ↦ inl (h k p g)
  | inr g ↦ inr g
]

pub knows_more : (w : Hierarchy) (ns ms : List Node) (kept : List (Option ℕ)) → Extends ns ms → KnowsParents w ns kept → KnowsParents w ms kept
knows_more w ns ms kept x h id p e =
    let i : IsParent w ns id p = h id p e in
    let l = extends_long ns ms x in
    record {
      within = let g = i.within in omega arith;
      type = i.type;
      is = ap (parent w) (x.terms id i.within) ∙ i.is;
      has = has_extends ns ms p i.type i.has x;
    }

pub knows_noted : (w : Hierarchy) (ns ms : List Node) (old new : List (Option ℕ)) (id q : ℕ) → Extends ns ms → KnowsParents w ns old → Notes old new id q
    → id < length ns → HasOption ms (Some q) (parent w (term_of ns id)) → KnowsParents w ms new
knows_noted w ns ms old new id q x h n low (t, e, has) k p f = elim (n k p f) [
  | inl g ↦ knows_more w ns ms old x h k p g
  | inr g ↦ subst (λ (j : ℕ). IsParent w ms j p) (sym g.0) (subst (λ (j : ℕ). IsParent w ms id j) (sym g.1) one)
]
  where
    one : IsParent w ms id q
    one = record {
      within = let l = extends_long ns ms x in omega arith;
      type = t;
      is = ap (parent w) (x.terms id low) ∙ e;
      has = has;
    }

-- the parent that is known
pub known_is : (w : Hierarchy) (ns : List Node) (kept : List (Option ℕ)) (id p : ℕ) → KnowsParents w ns kept → slice_get kept id ≡ Some (Some p) → HasOption ns (Some p) (parent w (term_of ns id))
known_is w ns kept id p h e = let i : IsParent w ns id p = h id p e in (i.type, i.is, i.has)

-- a world whose pool grew
pub ready_more : (ns ms : List Node) (t : Tables) (kept : List (Option ℕ)) → IsReady ns t kept → Extends ns ms → IsReady ms t kept
ready_more ns ms t kept r x = record { paired = r.paired; parents = knows_more (hierarchy_in t) ns ms kept x r.parents }
