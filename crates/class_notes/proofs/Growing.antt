-- What is known goes on being so as the pool grows and facts are added.
use Rattle.std.proofs.Common.{◌≡◌, ◌∙◌, refl, sym, ap, subst, inl, inr, ℕ, ◌<◌, arith, List, length, slice_get, Some}
use Rattle.std.specs.List.{Contains}
use Rattle.type_terms.specs.declared.term.SigType.{SigType}
use Rattle.assembly_tree.specs.declared.assembly.Assembly.{Assembly}
use Rattle.sig_pool.specs.declared.node.Node.{Node}
use Rattle.sig_pool.specs.Pool.{Extends}
use Rattle.sig_pool.specs.Terms.{term_of}
use Rattle.type_hierarchy.specs.Hierarchy.{Hierarchy}
use Rattle.type_hierarchy.proofs.GrowLemmas.{extends_long, has_extends}
use Rattle.class_model.specs.Filled.{IsFilled}
use Rattle.class_model.specs.Slots.{IsFace, methods_in}
use Rattle.class_members.proofs.Finding.{fact_extends}
use Rattle.class_notes.specs.declared.note.Note.{Note}
use Rattle.class_notes.specs.declared.note.Note.TheVariants.{Skipped, Checked}
use Rattle.class_notes.specs.declared.note.Notes.{Notes}
use Rattle.class_notes.specs.declared.note.Open.{Open}
use Rattle.class_notes.specs.Notes.{IsOpen, HasOpen, IsSettled, AreOpen, IsNote, Knows}
use Rattle.class_notes.specs.Opening.{PairsAreFaces}
use Rattle.class_notes.specs.Reading.{AreTrue, IsReadAbove, HasRead}

abbrev Keeps : List (List ℕ) → List (List ℕ) → Type 0
Keeps old new = (k : List ℕ) → Contains old k → Contains new k

module _ (a : Assembly) (w : Hierarchy) (ns ms : List Node) (x : Extends ns ms) where
  up_to : (id : ℕ) → id < length ns → id < length ms
  up_to id h = let l = extends_long ns ms x in omega arith

  pub true_grows : (facts : List (List ℕ)) → AreTrue a w ns facts → AreTrue a w ms facts
  true_grows facts h k c =
      let f = h k c in
      record { id = f.id; type = f.type; has = has_extends ns ms f.id f.type f.has x; offer = f.offer; is = fact_extends ns ms f.id f.offer k x f.is; offered = f.offered }

  pub above_grows : (old new : List (List ℕ)) (t : SigType) → Keeps old new → IsReadAbove a w ns old t → IsReadAbove a w ms new t
  above_grows old new t k h u c y o =
      let f = h u c y o in
      record { id = f.id; has = has_extends ns ms f.id u f.has x; fact = f.fact; is = fact_extends ns ms f.id y f.fact x f.is; among = k f.fact f.among }

  pub read_grows : (facts : List (List ℕ)) (t : SigType) → HasRead a w ns facts t → HasRead a w ms facts t
  read_grows facts t h = record { all_true = true_grows facts h.all_true; above = above_grows facts facts t (λ k c. c) h.above }

  pub open_grows : (t : SigType) (o : Open) → IsOpen a w ns t o → IsOpen a w ms t o
  open_grows t o h =
      let e : term_of ns o.face ≡ term_of ms o.face = sym (x.terms o.face h.within) in
      record {
        within = up_to o.face h.within;
        face = subst (IsFace a w t) e h.face;
        slot = h.slot;
        is = subst (λ (s : SigType). slice_get (methods_in a w s) o.place ≡ Some h.slot) e h.is;
        asked = h.asked;
        unfilled = λ f. h.unfilled (subst (λ (s : SigType). IsFilled a w t s h.slot) (sym e) f);
      }

  pub has_open_grows : (face : SigType) (place : ℕ) (os : List Open) → HasOpen ns face place os → HasOpen ms face place os
  has_open_grows face place os h = record { open_at = h.open_at; among = h.among; within = up_to h.open_at.face h.within; same_face = x.terms h.open_at.face h.within ∙ h.same_face; same_place = h.same_place }

  pub settled_grows : (t : SigType) (os : List Open) (face : SigType) → IsSettled a w ns t os face → IsSettled a w ms t os face
  settled_grows t os face h slot place e s = elim (h slot place e s) [ inl f ↦ inl f | inr o ↦ inr (has_open_grows face place os o) ]

  pub are_open_grows : (t : SigType) (os : List Open) → AreOpen a w ns t os → AreOpen a w ms t os
  are_open_grows t os h = record { are = λ o c. open_grows t o (h.are o c); all = λ face f. settled_grows t os face (h.all face f) }

  note_grows : (old new : List (List ℕ)) (t : SigType) (n : Note) → Keeps old new → IsNote a w ns old t n → IsNote a w ms new t n
  note_grows old new t Skipped k h = h
  note_grows old new t (Checked os) k h = record { checked = h.checked; read = above_grows old new t k h.read; are_open = are_open_grows t os h.are_open }

  pub pairs_grow : (pairs : List (List ℕ)) → PairsAreFaces a w ns pairs → PairsAreFaces a w ms pairs
  pairs_grow pairs h t face c =
      let p = h t face c in
      record {
        type_within = up_to t p.type_within;
        face_within = up_to face p.face_within;
        is = subst (λ (s : SigType). IsFace a w s (term_of ms face)) (sym (x.terms t p.type_within)) (subst (IsFace a w (term_of ns t)) (sym (x.terms face p.face_within)) p.is);
      }

  -- notes are kept where facts are added that are true
  pub knows_grows : (old new : Notes) → Knows a w ns old → new.notes ≡ old.notes → Keeps old.facts new.facts → AreTrue a w ms new.facts → PairsAreFaces a w ms new.faces → Knows a w ms new
  knows_grows old new h e k f p = record { facts = f; faces = p; notes = notes }
    where
      notes : (id : ℕ) (n : Note) → slice_get new.notes id ≡ Some (Some n) → (id < length ms) × IsNote a w ms new.facts (term_of ms id) n
      notes id n g =
          let o = h.notes id n (ap (λ l. slice_get l id) (sym e) ∙ g) in
          (up_to id o.0, subst (λ (t : SigType). IsNote a w ms new.facts t n) (sym (x.terms id o.0)) (note_grows old.facts new.facts (term_of ns id) n k o.1))

  pub knows_held : (n : Notes) → Knows a w ns n → Knows a w ms n
  knows_held n k = knows_grows n n k refl (λ j c. c) (true_grows n.facts k.facts) (pairs_grow n.faces k.faces)
