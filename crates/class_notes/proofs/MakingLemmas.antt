-- How a note of a type is made from that of its parent.
use Rattle.std.proofs.Common.{◌≡◌, ◌∙◌, refl, sym, ap, subst, inl, inr, ℕ, ◌<◌, Bool, true, false, true≢false, List, [], ◌∷◌, ◌++◌, length, slice_get, Option, None, Some, IsTrue, Result, Ok, Err, OnOk, arith, ◌+◌, ◌≤◌, get_or, take}
use Rattle.std.specs.List.{All, Contains}
use Rattle.std.proofs.lemmas.List.{append-nil, take_all, take_more}
use Rattle.std.proofs.lemmas.List.Elements.{All-contains_itself, All-weaker, Contains-append_left, Contains-append_cases}
use Rattle.type_terms.specs.declared.term.SigType.{SigType}
use Rattle.assembly_tree.specs.declared.assembly.Assembly.{Assembly}
use Rattle.sig_pool.specs.declared.node.Node.{Node}
use Rattle.sig_pool.specs.Pool.{Extends, Has}
use Rattle.sig_pool.specs.Terms.{AllBelow, term_of}
use Rattle.type_hierarchy.specs.Hierarchy.{Hierarchy, Chain, alone, further, parent, itself, to_parent, to_interface}
use Rattle.type_hierarchy.specs.Pooled.{HasOption}
use Rattle.type_hierarchy.specs.World.{Content, Stays, hierarchy, type_at}
use Rattle.type_hierarchy.proofs.Climbing.{Next, none, some, next_step, some_same, none_some, chain_trans, up_trans, First, at_once, by_parent, by_interface, first_step}
use Rattle.type_hierarchy.proofs.GrowLemmas.{below_extends, extends_long, extends_trans}
use Rattle.type_order.specs.Found.{IsLedTo, Puts}
use Rattle.class_faces.specs.Ids.{AreIds}
use Rattle.class_faces.specs.Marked.{is_face}
use Rattle.class_faces.proofs.Walking.{within_one}
use Rattle.class_model.proofs.Members.{nothing_in, first_in}
use Rattle.class_model.specs.Classes.{IsChecked, IsKnown}
use Rattle.class_model.specs.Slots.{IsFace, methods_in}
use Rattle.class_notes.specs.declared.note.Note.{Note}
use Rattle.class_notes.specs.declared.note.Note.TheVariants.{Skipped, Checked}
use Rattle.class_notes.specs.declared.note.Notes.{Notes}
use Rattle.class_notes.specs.declared.note.Open.{Open}
use Rattle.class_members.specs.Facts.{IsNoted as IsAdded}
use Rattle.class_members.proofs.Lists.{in_right}
use Rattle.class_members.proofs.Worlds.{stays_on}
use Rattle.class_notes.specs.Fresh.{AreFresh, AreLedIds, IsPassed}
use Rattle.class_notes.specs.Making.{ArePassed, AddsItself, AddsPairs, Finds, IsParentChecked, IsParentSkipped}
use Rattle.class_notes.specs.Notes.{IsOpen, IsSettled, AreOpen, IsCheckedNote, IsNote, Knows}
use Rattle.class_notes.specs.Opening.{AddsFaces, AddsSlots, AreStill, IsFaceOf, IsWithin, PairsAreFaces}
use Rattle.class_notes.specs.Reading.{AreTrue, HasRead, IsOwnFilled, Reads}
use Rattle.class_notes.proofs.Growing.{above_grows, knows_grows, knows_held, open_grows, pairs_grow, settled_grows, true_grows}
use Rattle.class_notes.proofs.OpeningLemmas.{settled_more, slots_open, slots_settle}
use Rattle.class_notes.proofs.Worlds.{earlier_at, later_at}
use Rattle.class_notes.proofs.ReadingLemmas.{own_fills, filled_above, filled_cases, ids_grow, reads_true, read_top, read_below}

-- ---- which types are checked

module _ (a : Assembly) (w : Hierarchy) (t : SigType) where
  pub unknown : (IsKnown a w t → ⊥) → IsChecked a w t → ⊥
  unknown n h = n (h t alone)

  pub unchecked_above : (p : SigType) → parent w t ≡ Some p → (IsChecked a w p → ⊥) → IsChecked a w t → ⊥
  unchecked_above p e n h = n (λ u c. h u (chain_trans w (further alone e) c))

  pub checked_top : parent w t ≡ None → IsKnown a w t → IsChecked a w t
  checked_top e k u c = go (next_step w c)
    where
      go : Next w t u → IsKnown a w u
      go (none f) = subst (IsKnown a w) (sym f) k
      go (some f d) = let q : ⊥ = cc in absurd q

  pub checked_below : (p : SigType) → parent w t ≡ Some p → IsKnown a w t → IsChecked a w p → IsChecked a w t
  checked_below p e k h u c = go (next_step w c)
    where
      go : Next w t u → IsKnown a w u
      go (none f) = subst (IsKnown a w) (sym f) k
      go (some f d) = h u (subst (λ (q : SigType). Chain w q u) (some_same f e) d)

-- ---- the slots of the parent's interfaces

face_below : (a : Assembly) (w : Hierarchy) (t p face : SigType) → parent w t ≡ Some p → IsFace a w p face → IsFace a w t face
face_below a w t p face e f = record { up = up_trans w (to_parent itself e) f.up; is = f.is }

module _ (a : Assembly) (w : Hierarchy) (ns : List Node) (t p : SigType) (e : parent w t ≡ Some p) (opens left : List Open) (h : AreOpen a w ns p opens) (s : AreStill a w ns t opens left) where
  passed_open : (o : Open) → Contains left o → IsOpen a w ns t o
  passed_open o c =
      let r = s.are o c in
      let q = h.are o r.0 in
      record {
        within = q.within;
        face = face_below a w t p (term_of ns o.face) e q.face;
        slot = q.slot;
        is = q.is;
        asked = q.asked;
        unfilled = λ f. elim (filled_cases a w t (term_of ns o.face) q.slot p e f) [ inl g ↦ r.1 q.slot q.is g | inr g ↦ q.unfilled g ];
      }

  passed_settled : (face : SigType) → IsFace a w p face → IsSettled a w ns t left face
  passed_settled face f slot place g asked = elim (h.all face f slot place g asked) [
    | inl k ↦ inl (filled_above a w t face slot p e k)
    | inr k ↦
        let o = k.open_at in
        let d : slice_get (methods_in a w (term_of ns o.face)) o.place ≡ Some slot =
        ap (λ (u : SigType). slice_get (methods_in a w u) o.place) k.same_face ∙ ap (slice_get (methods_in a w face)) k.same_place ∙ g in
        elim (s.all o slot k.among d) [
          | inl v ↦ inl (own_fills a w t face slot (subst (λ (u : SigType). IsOwnFilled a w t u slot) k.same_face v))
          | inr c ↦ inr (record { open_at = o; among = c; within = k.within; same_face = k.same_face; same_place = k.same_place })
        ]
  ]

  pub passed : (id : ℕ) → term_of ns id ≡ p → ArePassed a w ns t (Some id) left
  passed id is = record { are = passed_open; of = λ o c. subst (λ (u : SigType). IsFace a w u (term_of ns o.face)) (sym is) (h.are o (s.are o c).0).face; settled = λ face f. passed_settled face (subst (λ (u : SigType). IsFace a w u face) is f) }

pub passed_none : (a : Assembly) (w : Hierarchy) (ns : List Node) (t : SigType) (os : List Open) → ((o : Open) → Contains os o → ⊥) → ArePassed a w ns t None os
passed_none a w ns t os n = record { are = λ o c. absurd (n o c); of = λ o c. absurd (n o c); settled = λ face f. absurd f }

-- ---- all slots of a type

module _ (a : Assembly) (w : Hierarchy) (ns : List Node) (t : SigType) (faces : List ℕ) (ids : AreIds ns (λ d. IsLedTo w t d × IsTrue (is_face a w d)) faces)
    (old middle new : List Open) (f : AddsFaces a w ns t faces old middle) (i : AddsItself a w ns t middle new) (open_before : (o : Open) → Contains old o → IsOpen a w ns t o)
    (above : (p face : SigType) → parent w t ≡ Some p → IsFace a w p face → IsSettled a w ns t old face) where
  to_new : (face : SigType) → IsSettled a w ns t middle face → IsSettled a w ns t new face
  to_new face s = subst (λ (l : List Open). IsSettled a w ns t l face) (sym i.is) (settled_more a w ns t middle i.more face s)

  from_old : (face : SigType) → IsSettled a w ns t old face → IsSettled a w ns t new face
  from_old face s = to_new face (subst (λ (l : List Open). IsSettled a w ns t l face) (sym f.is) (settled_more a w ns t old f.more face s))

  by_first : (face : SigType) → IsTrue (is_face a w face) → First w t face → IsSettled a w ns t new face
  by_first face h (at_once e) = subst (IsSettled a w ns t new) (sym e) (i.settled (subst (λ (u : SigType). IsTrue (is_face a w u)) e h))
  by_first face h (by_parent {p = p} e u) = from_old face (above p face e (record { up = u; is = h }))
  by_first face h (by_interface {p = p} c u) =
      let k = ids.all face (record { by = p; listed = c; up = u }, h) in
      to_new face (subst (IsSettled a w ns t middle) k.is (f.settled k.id k.among))

  each_open : (o : Open) → Contains new o → IsOpen a w ns t o
  each_open o c = elim (Contains-append_cases middle i.more o (subst (λ (l : List Open). Contains l o) i.is c)) [
    | inl d ↦ elim (Contains-append_cases old f.more o (subst (λ (l : List Open). Contains l o) f.is d)) [
      | inl g ↦ open_before o g
      | inr g ↦ f.are o g
    ]
    | inr d ↦ i.are o d
  ]

  pub all_open : AreOpen a w ns t new
  all_open = record { are = each_open; all = λ face g. by_first face g.is (first_step w g.up) }

-- ---- pairs

pub pairs_added : (a : Assembly) (w : Hierarchy) (ns : List Node) (key : ℕ) (low : key < length ns) (faces : List ℕ) (old new : List (List ℕ)) → PairsAreFaces a w ns old →
    ((k : ℕ) → Contains faces k → (k < length ns) × IsFace a w (term_of ns key) (term_of ns k)) → AddsPairs key faces old new → PairsAreFaces a w ns new
pairs_added a w ns key low faces old new h are adds t face c = elim (adds (t ∷ face ∷ []) c) [
  | inl d ↦ h t face d
  | inr p ↦
      let same : t ≡ key = cc_head p.2 in
      let is : face ≡ p.0 = cc_next p.2 in
      let r = are p.0 p.1 in
      record {
        type_within = subst (λ (k : ℕ). k < length ns) (sym same) low;
        face_within = subst (λ (k : ℕ). k < length ns) (sym is) r.0;
        is = subst (λ (k : ℕ). IsFace a w (term_of ns k) (term_of ns face)) (sym same) (subst (λ (k : ℕ). IsFace a w (term_of ns key) (term_of ns k)) (sym is) r.1);
      }
]
  where
    cc_head : {n m k l : ℕ} → n ∷ k ∷ [] ≡ m ∷ l ∷ [] → n ≡ m
    cc_head e = cc

    cc_next : {n m k l : ℕ} → n ∷ k ∷ [] ≡ m ∷ l ∷ [] → k ≡ l
    cc_next e = cc

pub led_is_face : (a : Assembly) (w : Hierarchy) (t d : SigType) → IsLedTo w t d → IsTrue (is_face a w d) → IsFace a w t d
led_is_face a w t d l h = record { up = up_trans w (to_interface itself l.listed) l.up; is = h }

-- ---- what is kept

pub knows_put : (a : Assembly) (w : Hierarchy) (ns : List Node) (old new : Notes) (key : ℕ) (n : Note) → Knows a w ns old → new.facts ≡ old.facts → new.faces ≡ old.faces →
    Puts old.notes new.notes key n → key < length ns → IsNote a w ns old.facts (term_of ns key) n → Knows a w ns new
knows_put a w ns old new key n h ef ep puts low is = record {
  facts = subst (λ (l : List (List ℕ)). AreTrue a w ns l) (sym ef) h.facts;
  faces = subst (PairsAreFaces a w ns) (sym ep) h.faces;
  notes = notes;
}
  where
    notes : (id : ℕ) (m : Note) → slice_get new.notes id ≡ Some (Some m) → (id < length ns) × IsNote a w ns new.facts (term_of ns id) m
    notes id m e = elim (puts id m e) [
      | inl f ↦ let r = h.notes id m f in (r.0, subst (λ (l : List (List ℕ)). IsNote a w ns l (term_of ns id) m) (sym ef) r.1)
      | inr p ↦ (
        subst (λ (k : ℕ). k < length ns) (sym p.0) low,
        subst (λ (l : List (List ℕ)). IsNote a w ns l (term_of ns id) m) (sym ef)
            (subst (λ (k : ℕ). IsNote a w ns old.facts (term_of ns k) m) (sym p.0) (subst (IsNote a w ns old.facts (term_of ns key)) (sym p.1) is)),
      )
    ]

-- ---- what is read of a type whose parent is known

-- where the parent is checked, all that it and its ancestors offer is read
above_parent : (a : Assembly) (w : Hierarchy) (ns : List Node) (n : Notes) (parent_id : Option ℕ) (p : SigType) → Knows a w ns n → IsParentChecked n parent_id →
    (id : ℕ) → parent_id ≡ Some id → term_of ns id ≡ p → (os : List Open) × (slice_get n.notes id ≡ Some (Some (Checked os))) × IsCheckedNote a w ns n.facts p os
above_parent a w ns n None p k c id e is = absurd (let q : ⊥ = cc in q)
above_parent a w ns n (Some j) p k c id e is =
    let same : j ≡ id = cc in
    let r = k.notes j (Checked c.0) c.1 in
    (c.0, subst (λ (i : ℕ). slice_get n.notes i ≡ Some (Some (Checked c.0))) same c.1, subst (λ (u : SigType). IsCheckedNote a w ns n.facts u c.0) (ap (term_of ns) same ∙ is) r.1)

module _ (a : Assembly) (w : Hierarchy) (ns ms : List Node) (x : Extends ns ms) (key : ℕ) (low : key < length ns) (n : Notes) (new : List (List ℕ)) (k : Knows a w ns n)
    (r : Reads a w ms key (term_of ns key) n.facts new) where
  -- with the facts that are read
  abbrev pub n_read : Notes
  n_read = record { facts = new; faces = n.faces; notes = n.notes }

  abbrev key_has : Has ns key (term_of ns key)
  key_has = record { within = low; term = refl }

  true_read : AreTrue a w ms new
  true_read = reads_true a w ns ms key (term_of ns key) n.facts new x key_has r k.facts

  pub knows_read : Knows a w ms n_read
  knows_read = knows_grows a w ns ms x n n_read k refl r.kept true_read (pairs_grow a w ns ms x n.faces k.faces)

  pub has_read : (o : Option ℕ) → HasOption ns o (parent w (term_of ns key)) → IsParentChecked n o → HasRead a w ms new (term_of ns key)
  has_read None h c = record { all_true = true_read; above = read_top a w ns ms key (term_of ns key) n.facts new x key_has r h }
  has_read (Some id) h c =
      let q = above_parent a w ns n (Some id) h.0 k c id refl h.2.term in
      record { all_true = true_read; above = read_below a w ns ms key (term_of ns key) n.facts new x key_has r h.0 h.1 q.2.read }

-- ---- the slots that are passed on

pub not_both : {o : Option (Option Note)} {os : List Open} → o ≡ Some (Some (Checked os)) → o ≡ Some (Some Skipped) → ⊥
not_both e f = let h : ⊥ = cc in h

pub passed_checked : (a : Assembly) (w : Hierarchy) (ns : List Node) (t : SigType) (n : Notes) (id : ℕ) (os left : List Open) → Knows a w ns n → HasOption ns (Some id) (parent w t) →
    slice_get n.notes id ≡ Some (Some (Checked os)) → AreStill a w ns t os left → ArePassed a w ns t (Some id) left
passed_checked a w ns t n id os left k h e s =
    let r = k.notes id (Checked os) e in
    passed a w ns t h.0 h.1 os left (subst (λ (u : SigType). AreOpen a w ns u os) h.2.term r.1.are_open) s id h.2.term

pub opens_within : (a : Assembly) (w : Hierarchy) (ns : List Node) (n : Notes) (id : ℕ) (os : List Open) → Knows a w ns n → slice_get n.notes id ≡ Some (Some (Checked os)) → All (IsWithin (length ns)) os
opens_within a w ns n id os k e = All-weaker (Contains os) (IsWithin (length ns)) (λ o c. ((k.notes id (Checked os) e).1.are_open.are o c).within) os (All-contains_itself os)

-- ---- the type itself

pub itself_not : (a : Assembly) (w : Hierarchy) (ns : List Node) (t : SigType) (old : List Open) (r : Bool) → r ≡ is_face a w t → r ≡ false → AddsItself a w ns t old old
itself_not a w ns t old r e f = record { more = []; is = sym (append-nil old); are = λ o c. absurd (nothing_in o c); settled = λ h. absurd (true≢false (sym h ∙ sym e ∙ f)) }

pub itself_some : (a : Assembly) (w : Hierarchy) (ns ls : List Node) (key : ℕ) (old new : List Open) (r : Bool) → Extends ns ls → key < length ns → r ≡ is_face a w (term_of ns key) → r ≡ true →
    AddsSlots a w ls (term_of ns key) key (methods_in a w (term_of ns key)) old new → AddsItself a w ls (term_of ns key) old new
itself_some a w ns ls key old new r x low e t s =
    let f : IsFace a w (term_of ns key) (term_of ns key) = record { up = itself; is = sym e ∙ t } in
    record {
      more = s.more;
      is = s.is;
      are = slots_open a w ns ls x (term_of ns key) key low f old new s;
      settled = λ h. subst (IsSettled a w ls (term_of ns key) new) (x.terms key low) (slots_settle a w ns ls x (term_of ns key) key low f old new s);
    }

-- ---- what is kept of a type

-- a type whose parent isn't checked
pub skipped_by_parent : (a : Assembly) (w : Hierarchy) (ns : List Node) (n : Notes) (t : SigType) (o : Option ℕ) → Knows a w ns n → HasOption ns o (parent w t) → IsParentSkipped n o → IsNote a w ns n.facts t Skipped
skipped_by_parent a w ns n t None k h s = absurd s
skipped_by_parent a w ns n t (Some id) k h s =
    unchecked_above a w t h.0 h.1 (subst (λ (u : SigType). IsChecked a w u → ⊥) h.2.term (k.notes id Skipped s).1)

-- one that is known, and whose parent is checked
pub checked_by_parent : (a : Assembly) (w : Hierarchy) (ns : List Node) (n : Notes) (t : SigType) (o : Option ℕ) → Knows a w ns n → HasOption ns o (parent w t) → IsParentChecked n o → IsKnown a w t → IsChecked a w t
checked_by_parent a w ns n t None k h c known = checked_top a w t h known
checked_by_parent a w ns n t (Some id) k h c known = let q = above_parent a w ns n (Some id) h.0 k c id refl h.2.term in checked_below a w t h.0 h.1 known q.2.checked

-- ---- the slots of a type that is checked

settled_above : (a : Assembly) (w : Hierarchy) (ns : List Node) (t : SigType) (o : Option ℕ) (os : List Open) → HasOption ns o (parent w t) → ArePassed a w ns t o os → (p face : SigType) → parent w t ≡ Some p →
    IsFace a w p face → IsSettled a w ns t os face
settled_above a w ns t None os h s p face e f = absurd (none_some h e)
settled_above a w ns t (Some id) os h s p face e f =
    s.settled face (subst (λ (u : SigType). IsFace a w u face) (some_same e h.1 ∙ sym h.2.term) f)

module _ (a : Assembly) (w : Hierarchy) (ns ms ls : List Node) (x : Extends ns ms) (y : Extends ms ls) (t : SigType) (o : Option ℕ) (h : HasOption ns o (parent w t)) (passed middle new : List Open)
    (p : ArePassed a w ns t o passed) where
  module _ (ids : List ℕ) (led : AreIds ns (λ d. IsLedTo w t d × IsTrue (is_face a w d)) ids) (f : AddsFaces a w ms t ids passed middle) (i : AddsItself a w ls t middle new) where
    abbrev Of : SigType → Type 0
    Of d = IsLedTo w t d × IsTrue (is_face a w d)

    faces_later : AddsFaces a w ls t ids passed middle
    faces_later = record {
      more = f.more;
      is = f.is;
      are = λ p c. open_grows a w ms ls y t p (f.are p c);
      settled = λ k c.
          let low : k < length ms = below_of (below_extends ns ms ids x led.within) k c in
          subst (IsSettled a w ls t middle) (sym (y.terms k low)) (settled_grows a w ms ls y t middle (term_of ms k) (f.settled k c));
    }
      where
        below_of : AllBelow (length ms) ids → (k : ℕ) → Contains ids k → k < length ms
        below_of b k c = within_one ids (length ms) k b c

    z : Extends ns ls
    z = extends_trans ns ms ls x y

    pub all_found : AreOpen a w ls t new
    all_found =
        all_open a w ls t ids (ids_grow ns ls Of ids z led) passed middle new faces_later i (λ o c. open_grows a w ns ls z t o (p.are o c))
        (λ q face e g. settled_grows a w ns ls z t passed face (settled_above a w ns t o passed h p q face e g))

-- ---- in a world that goes on

module _ (a : Assembly) (w0 w1 : Content) (s : Stays w0 w1) (key : ℕ) (low : key < length w0.nodes) where
  face_on : (face : SigType) → IsFace a (hierarchy w0) (type_at w0 key) face → IsFace a (hierarchy w1) (type_at w1 key) face
  face_on face h = later_at w0 w1 s key low (λ v t. IsFace a v t face) h

  pub faces_on : (faces : List ℕ) → AreLedIds a (hierarchy w0) w0.nodes (type_at w0 key) faces → (k : ℕ) → Contains faces k → IsFace a (hierarchy w1) (type_at w1 key) (type_at w1 k)
  faces_on faces h k c =
      let p = h.are k c in
      subst (IsFace a (hierarchy w1) (type_at w1 key)) (sym (s.nodes.terms k (within_one faces (length w0.nodes) k h.within c)))
      (face_on (type_at w0 k) (led_is_face a (hierarchy w0) (type_at w0 key) (type_at w0 k) p.0 p.1))

-- interfaces that are left out, as the parent has them
module _ (a : Assembly) (w : Hierarchy) (ns ms : List Node) (x : Extends ns ms) (t : SigType) (o : Option ℕ) (pairs : List (List ℕ)) (k : PairsAreFaces a w ns pairs) (faces : List ℕ)
    (low : AllBelow (length ns) faces) (fresh : List ℕ) (passed middle : List Open) (p : ArePassed a w ns t o passed) (h : AreFresh pairs o passed faces fresh) (f : AddsFaces a w ms t fresh passed middle) where
  of_parent : (face : ℕ) → IsPassed pairs o passed face → IsFaceOf a w ns o (term_of ns face)
  of_parent face (inl q) = subst (λ (i : Option ℕ). IsFaceOf a w ns i (term_of ns face)) (sym q.1) (k q.0 face q.2).is
  of_parent face (inr q) = subst (λ (j : ℕ). IsFaceOf a w ns o (term_of ns j)) q.is (p.of q.open_at q.among)

  by_parent_settled : (face : ℕ) → face < length ns → IsPassed pairs o passed face → IsSettled a w ms t middle (term_of ms face)
  by_parent_settled face l q =
      subst (IsSettled a w ms t middle) (sym (x.terms face l))
      (subst (λ (os : List Open). IsSettled a w ms t os (term_of ns face)) (sym f.is)
      (settled_more a w ms t passed f.more (term_of ns face) (settled_grows a w ns ms x t passed (term_of ns face) (p.settled (term_of ns face) (of_parent face q)))))

  pub faces_rest : AddsFaces a w ms t faces passed middle
  faces_rest = record {
    more = f.more;
    is = f.is;
    are = f.are;
    settled = λ face c. elim (h.all face c) [ inl d ↦ f.settled face d | inr q ↦ by_parent_settled face (within_one faces (length ns) face low c) q ];
  }

pub fresh_of : (pairs : List (List ℕ)) (o : Option ℕ) (slice opens : List Open) (faces fresh : List ℕ) → slice ≡ opens → AreFresh pairs o slice faces fresh → AreFresh pairs o opens faces fresh
fresh_of pairs o slice opens faces fresh e h = subst (λ (l : List Open). AreFresh pairs o l faces fresh) e h

pub fresh_within : (n : ℕ) (pairs : List (List ℕ)) (o : Option ℕ) (opens : List Open) (faces fresh : List ℕ) → AreFresh pairs o opens faces fresh → AllBelow n faces → AllBelow n fresh
fresh_within n pairs o opens faces fresh h low = All-weaker (Contains fresh) (λ k. k < n) (λ k c. within_one faces n k low (h.are k c)) fresh (All-contains_itself fresh)

-- the slots of a type, from what was found in three steps
pub opened : (a : Assembly) (w0 w1 w2 w3 : Content) (s1 : Stays w0 w1) (s2 : Stays w1 w2) (s3 : Stays w2 w3) (key : ℕ) → key < length w0.nodes → (o : Option ℕ) (pairs : List (List ℕ))
    (faces fresh : List ℕ) (passed middle new : List Open) → HasOption w0.nodes o (parent (hierarchy w0) (type_at w0 key)) → AreLedIds a (hierarchy w0) w0.nodes (type_at w0 key) faces →
    PairsAreFaces a (hierarchy w0) w0.nodes pairs → ArePassed a (hierarchy w0) w0.nodes (type_at w0 key) o passed → AreFresh pairs o passed faces fresh →
    AddsFaces a (hierarchy w1) w2.nodes (type_at w1 key) fresh passed middle → AddsItself a (hierarchy w2) w3.nodes (type_at w2 key) middle new → AreOpen a (hierarchy w0) w3.nodes (type_at w0 key) new
opened a w0 w1 w2 w3 s1 s2 s3 key low o pairs faces fresh passed middle new h led k p r f i =
    let s12 = stays_on w0 w1 w2 s1 s2 in
    all_found a (hierarchy w0) w0.nodes w2.nodes w3.nodes s12.nodes s3.nodes (type_at w0 key) o h passed middle new p faces led
    (faces_rest a (hierarchy w0) w0.nodes w2.nodes s12.nodes (type_at w0 key) o pairs k faces led.within fresh passed middle p r
    (earlier_at w0 w1 s1 key low (λ v t. AddsFaces a v w2.nodes t fresh passed middle) f)) (earlier_at w0 w2 s12 key low (λ v t. AddsItself a v w3.nodes t middle new) i)

-- what is found of a type, from what is read and from its slots
pub finds_all : (a : Assembly) (w0 w2 w3 : Content) (s2 : Stays w0 w2) (s3 : Stays w2 w3) (key : ℕ) (low : key < length w0.nodes) (n : Notes) (facts : List (List ℕ)) (k : Knows a (hierarchy w0) w0.nodes n)
    (r : Reads a (hierarchy w0) w2.nodes key (type_at w0 key) n.facts facts) (o : Option ℕ) → HasOption w0.nodes o (parent (hierarchy w0) (type_at w0 key)) → IsParentChecked n o → (faces : List ℕ) →
    AreLedIds a (hierarchy w0) w2.nodes (type_at w0 key) faces → (opens : List Open) → AreOpen a (hierarchy w0) w3.nodes (type_at w0 key) opens → (new : Notes) → new.facts ≡ facts → new.notes ≡ n.notes →
    AddsPairs key faces n.faces new.faces → Finds a (hierarchy w0) w3.nodes (type_at w0 key) n new opens
finds_all a w0 w2 w3 s2 s3 key low n facts k r o h c faces led opens are new ef en adds = record {
  knows = knows_grows a w w2.nodes w3.nodes s3.nodes n2 new k2 en (λ j d. subst (λ (l : List (List ℕ)). Contains l j) (sym ef) d)
      (subst (AreTrue a w w3.nodes) (sym ef) (true_grows a w w2.nodes w3.nodes s3.nodes facts read.all_true)) pairs;
  same = en;
  read = above_grows a w w2.nodes w3.nodes s3.nodes facts new.facts (type_at w0 key) (λ j d. subst (λ (l : List (List ℕ)). Contains l j) (sym ef) d) read.above;
  are_open = are;
}
  where
    w : Hierarchy
    w = hierarchy w0

    n2 : Notes
    n2 = record { facts = facts; faces = n.faces; notes = n.notes }

    k2 : Knows a w w2.nodes n2
    k2 = knows_read a w w0.nodes w2.nodes s2.nodes key low n facts k r

    read : HasRead a w w2.nodes facts (type_at w0 key)
    read = has_read a w w0.nodes w2.nodes s2.nodes key low n facts k r o h c

    s03 : Stays w0 w3
    s03 = stays_on w0 w2 w3 s2 s3

    key_low : key < length w3.nodes
    key_low = let l = extends_long w0.nodes w3.nodes s03.nodes in omega (arith, l, low)

    faces_are : (j : ℕ) → Contains faces j → (j < length w3.nodes) × IsFace a w (term_of w3.nodes key) (term_of w3.nodes j)
    faces_are j d =
        let b = within_one faces (length w2.nodes) j led.within d in
        let p = led.are j d in
        let l = extends_long w2.nodes w3.nodes s3.nodes in
        let f : IsFace a w (type_at w0 key) (term_of w3.nodes j) =
        subst (IsFace a w (type_at w0 key)) (sym (s3.nodes.terms j b)) (led_is_face a w (type_at w0 key) (term_of w2.nodes j) p.0 p.1) in
        (omega (arith, b, l), subst (λ (t : SigType). IsFace a w t (term_of w3.nodes j)) (sym (s03.nodes.terms key low)) f)

    pairs : PairsAreFaces a w w3.nodes new.faces
    pairs = pairs_added a w w3.nodes key key_low faces n.faces new.faces (pairs_grow a w w0.nodes w3.nodes s03.nodes n.faces k.faces) faces_are adds

-- ---- what is kept, in a world that goes on

pub knows_checked : (a : Assembly) (w0 w1 : Content) (s : Stays w0 w1) (key : ℕ) → key < length w0.nodes → (old middle new : Notes) (opens : List Open) →
    Finds a (hierarchy w0) w1.nodes (type_at w0 key) old middle opens → IsChecked a (hierarchy w0) (type_at w0 key) → new.facts ≡ middle.facts → new.faces ≡ middle.faces →
    Puts middle.notes new.notes key (Checked opens) → Knows a (hierarchy w0) w1.nodes new
knows_checked a w0 w1 s key low old middle new opens f c ef ep puts =
    let l = extends_long w0.nodes w1.nodes s.nodes in
    knows_put a (hierarchy w0) w1.nodes middle new key (Checked opens) f.knows ef ep puts (omega (arith, l, low))
    (subst (λ (t : SigType). IsCheckedNote a (hierarchy w0) w1.nodes middle.facts t opens) (sym (s.nodes.terms key low)) (record { checked = c; read = f.read; are_open = f.are_open }))

pub knows_skipped : (a : Assembly) (w0 w1 : Content) (s : Stays w0 w1) (key : ℕ) → key < length w0.nodes → (old new : Notes) → Knows a (hierarchy w0) w0.nodes old → new.facts ≡ old.facts →
    new.faces ≡ old.faces → Puts old.notes new.notes key Skipped → (IsChecked a (hierarchy w0) (type_at w0 key) → ⊥) → Knows a (hierarchy w0) w1.nodes new
knows_skipped a w0 w1 s key low old new k ef ep puts n =
    let l = extends_long w0.nodes w1.nodes s.nodes in
    knows_put a (hierarchy w0) w1.nodes old new key Skipped (knows_held a (hierarchy w0) w0.nodes w1.nodes s.nodes old k) ef ep puts (omega (arith, l, low))
    (subst (λ (t : SigType). IsChecked a (hierarchy w0) t → ⊥) (sym (s.nodes.terms key low)) n)

pub on_ok_always : {X E P : Type 0} (r : Result X E) → P → OnOk r P
on_ok_always (Ok x) p = p
on_ok_always (Err e) p = tt

-- ---- pairs that are added one after the other

pub pairs_begin : (key : ℕ) (old : List (List ℕ)) → AddsPairs key [] old old
pairs_begin key old k c = inl c

pub pairs_next : (key : ℕ) (faces : List ℕ) (i face : ℕ) (old middle new : List (List ℕ)) (pair : List ℕ) → i < length faces → face ≡ get_or faces i face → AddsPairs key (take i faces) old middle →
    pair ≡ key ∷ face ∷ [] → IsAdded middle new pair → AddsPairs key (take (i + 1) faces) old new
pairs_next key faces i face old middle new pair low is h e n k c = elim (n.only k c) [
  | inl d ↦ elim (h k d) [
    | inl g ↦ inl g
    | inr p ↦ inr (p.0, subst (λ (l : List ℕ). Contains l p.0) next (Contains-append_left (take i faces) (face ∷ []) p.0 p.1), p.2)
  ]
  | inr g ↦ inr (face, subst (λ (l : List ℕ). Contains l face) next (in_right (take i faces) (face ∷ []) face (first_in face [])), g ∙ e)
]
  where
    next : take i faces ++ face ∷ [] ≡ take (i + 1) faces
    next = ap (λ (x : ℕ). take i faces ++ x ∷ []) is ∙ sym (take_more faces i face low)

pub pairs_end : (key : ℕ) (faces : List ℕ) (i : ℕ) (old new : List (List ℕ)) → length faces ≤ i → AddsPairs key (take i faces) old new → AddsPairs key faces old new
pairs_end key faces i old new h p = subst (λ (l : List ℕ). AddsPairs key l old new) (take_all i faces h) p
