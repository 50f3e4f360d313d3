-- What is said of a type in a world that goes on.
use Rattle.std.proofs.Common.{◌≡◌, sym, subst, refl, arith, ℕ, zero, suc, ◌<◌, List, [], ◌∷◌, length, slice_get, slice_set, Option, None, Some}
use Rattle.type_terms.specs.declared.term.SigType.{SigType}
use Rattle.type_hierarchy.specs.Hierarchy.{Hierarchy, parent}
use Rattle.type_hierarchy.specs.Pooled.{HasOption}
use Rattle.type_hierarchy.specs.Tables.{hierarchy_in}
use Rattle.type_hierarchy.specs.World.{Content, Stays, hierarchy, type_at}
use Rattle.type_hierarchy.specs.declared.tables.Tables.{Tables}
use Rattle.type_hierarchy.proofs.GrowLemmas.{has_extends}

module _ (w0 w1 : Content) (s : Stays w0 w1) where
  -- what is said of the world
  pub later : (P : Hierarchy → Type 0) → P (hierarchy w0) → P (hierarchy w1)
  later P h = subst (λ (ts : Tables). P (hierarchy_in ts)) (sym s.tables) h

  pub earlier : (P : Hierarchy → Type 0) → P (hierarchy w1) → P (hierarchy w0)
  earlier P h = subst (λ (ts : Tables). P (hierarchy_in ts)) s.tables h

  module _ (id : ℕ) (low : id < length w0.nodes) where
    -- what is said of the type of an id
    pub later_at : (P : Hierarchy → SigType → Type 0) → P (hierarchy w0) (type_at w0 id) → P (hierarchy w1) (type_at w1 id)
    later_at P h = subst (P (hierarchy w1)) (sym (s.nodes.terms id low)) (later (λ v. P v (type_at w0 id)) h)

    pub earlier_at : (P : Hierarchy → SigType → Type 0) → P (hierarchy w1) (type_at w1 id) → P (hierarchy w0) (type_at w0 id)
    earlier_at P h = earlier (λ v. P v (type_at w0 id)) (subst (P (hierarchy w1)) (s.nodes.terms id low) h)

    pub later_parent : (o : Option ℕ) → HasOption w0.nodes o (parent (hierarchy w0) (type_at w0 id)) → HasOption w1.nodes o (parent (hierarchy w1) (type_at w1 id))
    later_parent None h = later_at (λ v u. parent v u ≡ None) h
    later_parent (Some p) h = (h.0, later_at (λ v u. parent v u ≡ Some h.0) h.1, has_extends w0.nodes w1.nodes p h.0 h.2 s.nodes)

-- ---- what was put at a place

pub set_there : {X : Type 0} (xs : List (Option X)) (i : ℕ) (x : X) → i < length xs → slice_get (slice_set xs i (Some x)) i ≡ Some (Some x)
set_there [] i x h = absurd (omega (arith, h))
set_there (y ∷ xs) zero x h = refl
set_there (y ∷ xs) (suc i) x h = set_there xs i x (omega (arith, h))
