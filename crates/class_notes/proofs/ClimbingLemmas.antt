-- The way up from a type, and back.
use Rattle.std.proofs.Common.{◌≡◌, ◌∙◌, refl, sym, ap, ℕ, ◌<◌, arith, Bool, true, false, true≢false, List, [], ◌∷◌, ◌++◌, length, None, Some}
use Rattle.assembly_tree.specs.declared.assembly.Assembly.{Assembly}
use Rattle.sig_pool.specs.declared.node.Node.{Node}
use Rattle.type_hierarchy.specs.Hierarchy.{Hierarchy, parent}
use Rattle.type_hierarchy.specs.Pooled.{HasOption}
use Rattle.type_hierarchy.specs.World.{Content, Stays, hierarchy, type_at}
use Rattle.type_hierarchy.proofs.GrowLemmas.{extends_long}
use Rattle.type_order.specs.Found.{IsLadder, foot, rung}
use Rattle.type_order.proofs.StandingLemmas.{ladder_more}
use Rattle.class_notes.specs.Climbing.{IsTopOf}
use Rattle.class_notes.specs.Notes.{IsNoted, Knows}
use Rattle.class_notes.specs.declared.climbing.Ladder.{Ladder}
use Rattle.class_notes.specs.declared.note.Notes.{Notes}
use Rattle.class_notes.proofs.Growing.{knows_held}
use Rattle.class_notes.proofs.Worlds.{earlier, later}

-- ---- up

abbrev ladder_of : List ℕ → ℕ → Bool → Ladder
ladder_of keys top noted = record { keys = keys; top = top; is_noted = noted }

pub top_known : (w : Hierarchy) (ns : List Node) (n : Notes) (key : ℕ) (keys : List ℕ) (top : ℕ) → top < length ns → IsLadder w ns key keys top → IsNoted n top → IsTopOf w ns n key (ladder_of keys top true)
top_known w ns n key keys top low l k = record { within = low; ladder = l; noted = λ e. k; last = λ e. absurd (true≢false e) }

pub top_last : (w0 w1 w2 : Content) → Stays w0 w1 → Stays w1 w2 → (n : Notes) (key : ℕ) (keys : List ℕ) (top : ℕ) → top < length w1.nodes → IsLadder (hierarchy w0) w1.nodes key keys top →
    parent (hierarchy w1) (type_at w1 top) ≡ None → IsTopOf (hierarchy w0) w2.nodes n key (ladder_of keys top false)
top_last w0 w1 w2 s1 s2 n key keys top low l e = record {
  within = let m = extends_long w1.nodes w2.nodes s2.nodes in omega (arith, m, low);
  ladder = ladder_more (hierarchy w0) w1.nodes w2.nodes key s2.nodes low l;
  noted = λ f. absurd (true≢false (sym f));
  last = λ f. ap (parent (hierarchy w0)) (s2.nodes.terms top low) ∙ earlier w0 w1 s1 (λ v. parent v (type_at w1 top) ≡ None) e;
}

-- a parent that was found
pub up_on : (w0 w1 : Content) → Stays w0 w1 → (ns : List Node) (top p : ℕ) → HasOption ns (Some p) (parent (hierarchy w1) (type_at w1 top)) → HasOption ns (Some p) (parent (hierarchy w0) (type_at w1 top))
up_on w0 w1 s ns top p h = (h.0, earlier w0 w1 s (λ v. parent v (type_at w1 top) ≡ Some h.0) h.1, h.2)

-- ---- down

not_end : (xs : List ℕ) (x : ℕ) → xs ++ x ∷ [] ≡ [] → ⊥
not_end [] x e = let h : ⊥ = cc in h
not_end (y ∷ xs) x e = let h : ⊥ = cc in h

-- where no id is left, the type itself is reached
pub foot_is : (w : Hierarchy) (ns : List Node) (id at : ℕ) (ids : List ℕ) → IsLadder w ns id ids at → ids ≡ [] → at ≡ id
foot_is w ns id at ids (foot e f) g = f
foot_is w ns id at ids (rung {more = m} {x = y} e low p l) g = absurd (not_end m y (sym e ∙ g))

-- the id of the parent of a rung
pub rung_parent : (w0 w1 : Content) → Stays w0 w1 → (top below : ℕ) → top < length w1.nodes → parent (hierarchy w0) (type_at w1 below) ≡ Some (type_at w1 top) →
    HasOption w1.nodes (Some top) (parent (hierarchy w1) (type_at w1 below))
rung_parent w0 w1 s top below low e = (type_at w1 top, later w0 w1 s (λ v. parent v (type_at w1 below) ≡ Some (type_at w1 top)) e, record { within = low; term = refl })

-- what is known, in a world that goes on
pub knows_on : (a : Assembly) (w0 w1 : Content) → Stays w0 w1 → (n : Notes) → Knows a (hierarchy w0) w0.nodes n → Knows a (hierarchy w1) w1.nodes n
knows_on a w0 w1 s n k = later w0 w1 s (λ v. Knows a v w1.nodes n) (knows_held a (hierarchy w0) w0.nodes w1.nodes s.nodes n k)
