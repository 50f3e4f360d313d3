-- The interfaces that come to those of a parent, from all that lies above a type's own.
use Rattle.std.proofs.Common.{◌⊎◌, inl, inr, ◌∙◌, sym, subst, ℕ, ◌<◌, Bool, List, [], length, get_or, None, Some, Result, Ok, Err, IfOk, IsTrue}
use Rattle.std.specs.List.{Contains}
use Rattle.std.proofs.lemmas.List.Elements.{Contains-get_or}
use Rattle.type_terms.specs.declared.term.SigType.{SigType}
use Rattle.assembly_tree.specs.declared.assembly.Assembly.{Assembly}
use Rattle.sig_pool.specs.declared.node.Node.{Node}
use Rattle.sig_pool.specs.Pool.{Extends}
use Rattle.sig_pool.specs.Terms.{AllBelow}
use Rattle.type_hierarchy.specs.Hierarchy.{Hierarchy}
use Rattle.type_hierarchy.specs.Queues.{HasType, UpFromSome}
use Rattle.type_hierarchy.proofs.GrowLemmas.{below_extends}
use Rattle.type_hierarchy.proofs.QueueLemmas.{no_ids}
use Rattle.class_faces.specs.declared.faces.Faces.{Faces}
use Rattle.class_faces.specs.Ids.{AreIds}
use Rattle.class_faces.specs.Marked.{is_face, is_overriding, AreAmong, ArePassing}
use Rattle.class_faces.specs.Merged.{AreMerged}
use Rattle.class_faces.specs.More.{AreMore}
use Rattle.class_faces.specs.Unions.{IsUnion}
use Rattle.class_faces.proofs.Walking.{within_one}

-- ids that are below by what is in them
all_below : (b : ℕ) (ids : List ℕ) → ((k : ℕ) → Contains ids k → k < b) → AllBelow b ids
all_below b ids h k d low = h (get_or ids k d) (Contains-get_or ids k d low)

passing_ids : (ns : List Node) (P : SigType → Type 0) (test : SigType → Bool) (keys passing : List ℕ) → AreIds ns P keys → ArePassing test ns keys passing →
    AreIds ns (λ t. P t × IsTrue (test t)) passing
passing_ids ns P test keys passing h p = record {
  within = all_below (length ns) passing (λ k c. within_one keys (length ns) k h.within ((p k).0 c).0);
  are = λ id c. (h.are id ((p id).0 c).0, ((p id).0 c).1);
  all = λ t q.
      let i = h.all t q.0 in
      record { id = i.id; among = (p i.id).1 (i.among, subst (λ (x : SigType). IsTrue (test x)) (sym i.is) q.1); is = i.is };
}

module _ (ns ms : List Node) (x : Extends ns ms) (Q : SigType → Type 0) where
  -- those of an old list besides
  union_ids : (old new ids : List ℕ) → AllBelow (length ns) old → AreIds ms Q new → IsUnion old new ids → AreIds ms (λ t. HasType ns old t ⊎ Q t) ids
  union_ids old new ids low h u = record {
    within = all_below (length ms) ids (λ k c. elim ((u k).0 c) [
      | inl d ↦ within_one old (length ms) k (below_extends ns ms old x low) d
      | inr d ↦ within_one new (length ms) k h.within d
    ]);
    are = λ id c. elim ((u id).0 c) [
      | inl d ↦ inl (record { id = id; among = d; is = sym (x.terms id (within_one old (length ns) id low d)) })
      | inr d ↦ inr (h.are id d)
    ];
    all = λ t p. elim p [
      | inl i ↦ record { id = i.id; among = (u i.id).1 (inl i.among); is = x.terms i.id (within_one old (length ns) i.id low i.among) ∙ i.is }
      | inr q ↦ let i = h.all t q in record { id = i.id; among = (u i.id).1 (inr i.among); is = i.is }
    ];
  }

  alone_ids : (new : List ℕ) → AreIds ms Q new → AreIds ms (λ t. HasType ns [] t ⊎ Q t) new
  alone_ids new h = record {
    within = h.within;
    are = λ id c. inr (h.are id c);
    all = λ t p. elim p [ inl i ↦ absurd (no_ids i.id i.among) | inr q ↦ h.all t q ];
  }

module _ (a : Assembly) (w : Hierarchy) (ns ms : List Node) (x : Extends ns ms) (own keys : List ℕ) (f : Faces) (k : AreIds ms (UpFromSome w ns own) keys) (m : AreAmong a w ms keys f) where
  pub more_alone : AreMore a w ns ms own None f
  more_alone = record {
    all = alone_ids ns ms x (λ t. UpFromSome w ns own t × IsTrue (is_face a w t)) f.all (passing_ids ms (UpFromSome w ns own) (is_face a w) keys f.all k m.all);
    overriding = alone_ids ns ms x (λ t. UpFromSome w ns own t × IsTrue (is_overriding a w t)) f.overriding
        (passing_ids ms (UpFromSome w ns own) (is_overriding a w) keys f.overriding k m.overriding);
  }

  pub more_merged : (above r : Faces) → AllBelow (length ns) above.all → AllBelow (length ns) above.overriding → AreMerged above f r → AreMore a w ns ms own (Some above) r
  more_merged above r low over u = record {
    all = union_ids ns ms x (λ t. UpFromSome w ns own t × IsTrue (is_face a w t)) above.all f.all r.all low
        (passing_ids ms (UpFromSome w ns own) (is_face a w) keys f.all k m.all) u.all;
    overriding = union_ids ns ms x (λ t. UpFromSome w ns own t × IsTrue (is_overriding a w t)) above.overriding f.overriding r.overriding over
        (passing_ids ms (UpFromSome w ns own) (is_overriding a w) keys f.overriding k m.overriding) u.overriding;
  }

pub if_ok_more : {X E : Type 0} {P Q : X → Type 0} (r : Result X E) → ((x : X) → P x → Q x) → IfOk r P → IfOk r Q
if_ok_more (Ok x) f h = f x h
if_ok_more (Err e) f h = h
