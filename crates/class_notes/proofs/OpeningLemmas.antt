-- How the slots for which a type has no method are found.
use Rattle.std.proofs.Common.{◌≡◌, ◌∙◌, refl, sym, ap, subst, ◌⊎◌, inl, inr, ◌↔◌, ℕ, zero, suc, ◌+◌, ◌<◌, ◌≤◌, arith, Bool, true, false, true≢false, not, List, [], ◌∷◌, ◌++◌, length, get_or, slice_get, take, Option, None, Some, IsTrue}
use Rattle.std.specs.List.{All, Contains}
use Rattle.std.proofs.lemmas.List.{append-nil, append_assoc, length-take-le, take_more, take_all}
use Rattle.std.proofs.lemmas.List.Elements.{All-contains, All-take, Contains-append_left, Contains-append_cases}
use Rattle.std.proofs.lemmas.Option.{slice_get_within}
use Rattle.type_terms.specs.declared.term.SigType.{SigType}
use Rattle.assembly_tree.specs.declared.assembly.Assembly.{Assembly}
use Rattle.assembly_tree.specs.declared.members.Method.{Method}
use Rattle.assembly_tree.specs.declared.typedef.TypeDef.{TypeDef}
use Rattle.assembly_tree.specs.declared.typedef.TypeDef.TheViews.{out-TypeDef}
use Rattle.sig_pool.specs.declared.node.Node.{Node}
use Rattle.sig_pool.specs.Pool.{Extends}
use Rattle.sig_pool.specs.Terms.{AllBelow, term_of}
use Rattle.type_hierarchy.specs.Hierarchy.{Hierarchy}
use Rattle.type_hierarchy.specs.Tables.{hierarchy_in}
use Rattle.type_hierarchy.specs.World.{Content, Stays, hierarchy, type_at}
use Rattle.type_hierarchy.specs.declared.tables.Tables.{Tables}
use Rattle.type_hierarchy.proofs.Climbing.{none_some, some_same}
use Rattle.type_hierarchy.proofs.GrowLemmas.{extends_long}
use Rattle.class_model.specs.Classes.{declaration}
use Rattle.class_model.specs.Filled.{IsFilled}
use Rattle.class_model.specs.Slots.{IsFace, is_slot, methods_in, methods_of}
use Rattle.class_model.proofs.Members.{nothing_in, first_in, first_or_later}
use Rattle.class_members.proofs.Lists.{in_right}
use Rattle.class_notes.specs.declared.note.Open.{Open}
use Rattle.class_notes.specs.Notes.{IsOpen, IsSettled}
use Rattle.class_notes.specs.Opening.{AddsFaces, AddsSlot, AddsSlots, AreStill, IsLeft, IsOpenOf, IsWithin}
use Rattle.class_notes.specs.Reading.{HasRead, IsOwnFilled}
use Rattle.class_notes.proofs.Growing.{open_grows, read_grows, settled_grows}
use Rattle.class_notes.proofs.Worlds.{later_at}

-- ---- slots

abbrev slot_at : ℕ → ℕ → Open
slot_at face place = record { face = face; place = place }

pub slots_none : (a : Assembly) (w : Hierarchy) (ns : List Node) (t : SigType) (face : ℕ) (old : List Open) → AddsSlots a w ns t face [] old old
slots_none a w ns t face old = record {
  more = [];
  is = sym (append-nil old);
  are = λ o c. absurd (nothing_in o c);
  all = λ slot place e asked. absurd (let h = slice_get_within [] place slot e in omega (arith, h));
}

front : (ms : List Method) (m : Method) (place : ℕ) (slot : Method) → slice_get ms place ≡ Some slot → slice_get (ms ++ m ∷ []) place ≡ Some slot
front [] m place slot e = absurd (let h = slice_get_within [] place slot e in omega (arith, h))
front (x ∷ ms) m zero slot e = e
front (x ∷ ms) m (suc place) slot e = front ms m place slot e

last_or : (ms : List Method) (m : Method) (place : ℕ) (slot : Method) → slice_get (ms ++ m ∷ []) place ≡ Some slot →
    (slice_get ms place ≡ Some slot) ⊎ ((place ≡ length ms) × (m ≡ slot))
last_or [] m zero slot e = inr (refl, cc)
last_or [] m (suc place) slot e = absurd (let h = slice_get_within [] place slot e in omega (arith, h))
last_or (x ∷ ms) m zero slot e = inl e
last_or (x ∷ ms) m (suc place) slot e = elim (last_or ms m place slot e) [
  | inl f ↦ inl f
  | inr f ↦ let g : suc place ≡ length (x ∷ ms) = omega (arith, f.0) in inr (g, f.1)
]

at_last : (ms : List Method) (m : Method) → slice_get (ms ++ m ∷ []) (length ms) ≡ Some m
at_last [] m = refl
at_last (x ∷ ms) m = at_last ms m

module _ (a : Assembly) (w : Hierarchy) (ns ls : List Node) (x : Extends ns ls) (t : SigType) (face : ℕ) (low : face < length ns) (ms : List Method) (m : Method) (old middle new : List Open)
    (h : AddsSlots a w ns t face ms old middle) (s : AddsSlot a w t (term_of ns face) m (slot_at face (length ms)) middle new) where
  abbrev next : List Method
  next = ms ++ m ∷ []

  grown : term_of ls face ≡ term_of ns face
  grown = x.terms face low

  keep : (o : Open) → IsOpenOf a w ns t face ms o → IsOpenOf a w ls t face next o
  keep o p = record {
    same_face = p.same_face;
    slot = p.slot;
    is = front ms m o.place p.slot p.is;
    asked = p.asked;
    unfilled = λ f. p.unfilled (subst (λ (d : SigType). IsFilled a w t d p.slot) grown f);
  }

  fill_ls : (slot : Method) → IsFilled a w t (term_of ns face) slot → IsFilled a w t (term_of ls face) slot
  fill_ls slot f = subst (λ (d : SigType). IsFilled a w t d slot) (sym grown) f

  -- where nothing is added
  nothing : new ≡ middle → ((slot : Method) → m ≡ slot → IsTrue (is_slot slot) → IsFilled a w t (term_of ns face) slot) → AddsSlots a w ls t face next old new
  nothing e f = record { more = h.more; is = e ∙ h.is; are = λ o c. keep o (h.are o c); all = all }
    where
      all : (slot : Method) (place : ℕ) → slice_get next place ≡ Some slot → IsTrue (is_slot slot) → IsFilled a w t (term_of ls face) slot ⊎ Contains h.more (slot_at face place)
      all slot place g asked = elim (last_or ms m place slot g) [
        | inl k ↦ elim (h.all slot place k asked) [ inl p ↦ inl (fill_ls slot p) | inr c ↦ inr c ]
        | inr k ↦ inl (fill_ls slot (f slot k.1 asked))
      ]

  one_more : IsTrue (is_slot m) → (IsFilled a w t (term_of ns face) m → ⊥) → new ≡ middle ++ slot_at face (length ms) ∷ [] → AddsSlots a w ls t face next old new
  one_more asked n e = record {
    more = h.more ++ slot_at face (length ms) ∷ [];
    is = e ∙ ap (λ (l : List Open). l ++ slot_at face (length ms) ∷ []) h.is ∙ append_assoc old h.more (slot_at face (length ms) ∷ []);
    are = are;
    all = all;
  }
    where
      are : (o : Open) → Contains (h.more ++ slot_at face (length ms) ∷ []) o → IsOpenOf a w ls t face next o
      are o c = elim (Contains-append_cases h.more (slot_at face (length ms) ∷ []) o c) [
        | inl d ↦ keep o (h.are o d)
        | inr d ↦ elim (first_or_later (slot_at face (length ms)) [] o d) [
          | inl f ↦ subst (IsOpenOf a w ls t face next) f
              (record { same_face = refl; slot = m; is = at_last ms m; asked = asked; unfilled = λ g. n (subst (λ (d : SigType). IsFilled a w t d m) grown g) })
          | inr f ↦ absurd (nothing_in o f)
        ]
      ]

      all : (slot : Method) (place : ℕ) → slice_get next place ≡ Some slot → IsTrue (is_slot slot) →
          IsFilled a w t (term_of ls face) slot ⊎ Contains (h.more ++ slot_at face (length ms) ∷ []) (slot_at face place)
      all slot place g asks = elim (last_or ms m place slot g) [
        | inl k ↦ elim (h.all slot place k asks) [
          | inl p ↦ inl (fill_ls slot p)
          | inr c ↦ inr (Contains-append_left h.more (slot_at face (length ms) ∷ []) (slot_at face place) c)
        ]
        | inr k ↦ inr (subst (λ (j : ℕ). Contains (h.more ++ slot_at face (length ms) ∷ []) (slot_at face j)) (sym k.0) (in_right h.more (slot_at face (length ms) ∷ []) _ (first_in _ [])))
      ]

  pub slots_more : AddsSlots a w ls t face next old new
  slots_more = elim s [
    | inl p ↦ nothing p.1 (λ slot e asked. absurd (true≢false (sym asked ∙ ap is_slot (sym e) ∙ p.0)))
    | inr q ↦ elim q [
      | inl p ↦ nothing p.1 (λ slot e asked. subst (IsFilled a w t (term_of ns face)) e p.0)
      | inr p ↦ one_more p.0 p.1 p.2
    ]
  ]

-- ---- a method

pub no_slot : (a : Assembly) (w : Hierarchy) (t face : SigType) (m : Method) (o : Open) (old : List Open) (r : Bool) → r ≡ is_slot m → r ≡ false → AddsSlot a w t face m o old old
no_slot a w t face m o old r e f = inl (sym e ∙ f, refl)

pub one_slot : (a : Assembly) (w : Hierarchy) (t face : SigType) (m : Method) (o : Open) (old new : List Open) (r : Bool) → r ≡ is_slot m → r ≡ true → (IsFilled a w t face m → ⊥) → new ≡ old ++ o ∷ [] →
    AddsSlot a w t face m o old new
one_slot a w t face m o old new r e y n f = inr (inr (sym e ∙ y, n, f))

-- ---- the methods of an interface, in a world that goes on

-- where the interface isn't declared there are none
pub slots_end : (a : Assembly) (w : Hierarchy) (ns : List Node) (t : SigType) (face : ℕ) (d : Option TypeDef) (old : List Open) → d ≡ declaration a w (term_of ns face) → d ≡ None →
    AddsSlots a w ns t face (methods_in a w (term_of ns face)) old old
slots_end a w ns t face d old e n = subst (λ (o : Option TypeDef). AddsSlots a w ns t face (methods_of o) old old) (sym n ∙ e) (slots_none a w ns t face old)

pub slots_all : (a : Assembly) (w : Hierarchy) (ns : List Node) (t u : SigType) (face k : ℕ) (d : TypeDef) (methods : List Method) (old new : List Open) → Some d ≡ declaration a w u →
    methods ≡ (out-TypeDef d).methods → length methods ≤ k → AddsSlots a w ns t face (take k methods) old new → AddsSlots a w ns t face (methods_in a w u) old new
slots_all a w ns t u face k d methods old new e m h s =
    subst (λ (l : List Method). AddsSlots a w ns t face l old new) (take_all k methods h ∙ m ∙ ap methods_of e) s

pub read_on : (a : Assembly) (w0 w1 : Content) (s : Stays w0 w1) (at : ℕ) → at < length w0.nodes → (facts : List (List ℕ)) → HasRead a (hierarchy w0) w0.nodes facts (type_at w0 at) →
    HasRead a (hierarchy w1) w1.nodes facts (type_at w1 at)
read_on a w0 w1 s at low facts r = later_at w0 w1 s at low (λ h u. HasRead a h w1.nodes facts u) (read_grows a (hierarchy w0) w0.nodes w1.nodes s.nodes facts (type_at w0 at) r)

module _ (a : Assembly) (w0 w1 w2 : Content) (s1 : Stays w0 w1) (s2 : Stays w1 w2) (at : ℕ) (at_low : at < length w0.nodes) (face : ℕ) (face_low : face < length w0.nodes) where
  pub slots_step : (methods : List Method) (k : ℕ) (m : Method) → k < length methods → m ≡ get_or methods k m → (old middle new : List Open) →
      AddsSlots a (hierarchy w0) w1.nodes (type_at w0 at) face (take k methods) old middle → AddsSlot a (hierarchy w1) (type_at w1 at) (type_at w1 face) m (record { face = face; place = k }) middle new →
      AddsSlots a (hierarchy w0) w2.nodes (type_at w0 at) face (take (k + 1) methods) old new
  slots_step methods k m low is old middle new h s =
      let few : length (take k methods) ≡ k = length-take-le k methods (omega arith) in
      let at_old : AddsSlot a (hierarchy w0) (type_at w0 at) (type_at w1 face) m (slot_at face k) middle new =
      subst (λ (u : SigType). AddsSlot a (hierarchy w0) u (type_at w1 face) m (slot_at face k) middle new) (s1.nodes.terms at at_low)
      (subst (λ (ts : Tables). AddsSlot a (hierarchy_in ts) (type_at w1 at) (type_at w1 face) m (slot_at face k) middle new) s1.tables s) in
      let placed : AddsSlot a (hierarchy w0) (type_at w0 at) (type_at w1 face) m (slot_at face (length (take k methods))) middle new =
      subst (λ (j : ℕ). AddsSlot a (hierarchy w0) (type_at w0 at) (type_at w1 face) m (slot_at face j) middle new) (sym few) at_old in
      let long = extends_long w0.nodes w1.nodes s1.nodes in
      subst (λ (l : List Method). AddsSlots a (hierarchy w0) w2.nodes (type_at w0 at) face l old new) (sym (take_more methods k m low ∙ ap (λ (x : Method). take k methods ++ x ∷ []) (sym is)))
      (slots_more a (hierarchy w0) w1.nodes w2.nodes s2.nodes (type_at w0 at) face (omega arith) (take k methods) m old middle new h placed)

-- ---- interfaces

-- the slots of one interface
module _ (a : Assembly) (w : Hierarchy) (ns ls : List Node) (x : Extends ns ls) (t : SigType) (face : ℕ) (low : face < length ns) (f : IsFace a w t (term_of ns face)) (old new : List Open)
    (h : AddsSlots a w ls t face (methods_in a w (term_of ns face)) old new) where
  same : term_of ns face ≡ term_of ls face
  same = sym (x.terms face low)

  long : face < length ls
  long = let l = extends_long ns ls x in omega arith

  pub slots_open : (o : Open) → Contains h.more o → IsOpen a w ls t o
  slots_open o c =
      let p = h.are o c in
      let e : term_of ls face ≡ term_of ls o.face = ap (term_of ls) (sym p.same_face) in
      record {
        within = subst (λ (k : ℕ). k < length ls) (sym p.same_face) long;
        face = subst (IsFace a w t) (same ∙ e) f;
        slot = p.slot;
        is = subst (λ (d : SigType). slice_get (methods_in a w d) o.place ≡ Some p.slot) (same ∙ e) p.is;
        asked = p.asked;
        unfilled = λ g. p.unfilled (subst (λ (d : SigType). IsFilled a w t d p.slot) (sym e) g);
      }

  pub slots_settle : IsSettled a w ls t new (term_of ls face)
  slots_settle slot place e asked =
      let g : slice_get (methods_in a w (term_of ns face)) place ≡ Some slot = ap (λ (d : SigType). slice_get (methods_in a w d) place) same ∙ e in
      elim (h.all slot place g asked) [
        | inl p ↦ inl p
        | inr c ↦ inr (record {
          open_at = slot_at face place;
          among = subst (λ (l : List Open). Contains l (slot_at face place)) (sym h.is) (in_right old h.more (slot_at face place) c);
          within = long;
          same_face = refl;
          same_place = refl;
        })
      ]

-- what is settled stays so as slots are added
pub settled_more : (a : Assembly) (w : Hierarchy) (ns : List Node) (t : SigType) (old more : List Open) (face : SigType) → IsSettled a w ns t old face → IsSettled a w ns t (old ++ more) face
settled_more a w ns t old more face h slot place e asked = elim (h slot place e asked) [
  | inl f ↦ inl f
  | inr o ↦ inr (record { open_at = o.open_at; among = Contains-append_left old more o.open_at o.among; within = o.within; same_face = o.same_face; same_place = o.same_place })
]

pub faces_none : (a : Assembly) (w : Hierarchy) (ns : List Node) (t : SigType) (old : List Open) → AddsFaces a w ns t [] old old
faces_none a w ns t old = record { more = []; is = sym (append-nil old); are = λ o c. absurd (nothing_in o c); settled = λ k c. absurd (nothing_in k c) }

module _ (a : Assembly) (w : Hierarchy) (ns ls : List Node) (x : Extends ns ls) (t : SigType) (faces : List ℕ) (within : (k : ℕ) → Contains faces k → k < length ns) (face : ℕ) (low : face < length ns)
    (old middle : List Open) (h : AddsFaces a w ns t faces old middle) where
  settled_at : (new more : List Open) → new ≡ middle ++ more → (k : ℕ) → Contains faces k → IsSettled a w ls t new (term_of ls k)
  settled_at new more e k c =
      subst (λ (l : List Open). IsSettled a w ls t l (term_of ls k)) (sym e)
      (settled_more a w ls t middle more (term_of ls k)
      (subst (IsSettled a w ls t middle) (sym (x.terms k (within k c))) (settled_grows a w ns ls x t middle (term_of ns k) (h.settled k c))))

  pub faces_more : (new : List Open) → IsFace a w t (term_of ns face) → AddsSlots a w ls t face (methods_in a w (term_of ns face)) middle new → AddsFaces a w ls t (faces ++ face ∷ []) old new
  faces_more new f s = record {
    more = h.more ++ s.more;
    is = s.is ∙ ap (λ (l : List Open). l ++ s.more) h.is ∙ append_assoc old h.more s.more;
    are = are;
    settled = settled;
  }
    where
      are : (o : Open) → Contains (h.more ++ s.more) o → IsOpen a w ls t o
      are o c = elim (Contains-append_cases h.more s.more o c) [
        | inl d ↦ open_grows a w ns ls x t o (h.are o d)
        | inr d ↦ slots_open a w ns ls x t face low f middle new s o d
      ]

      settled : (k : ℕ) → Contains (faces ++ face ∷ []) k → IsSettled a w ls t new (term_of ls k)
      settled k c = elim (Contains-append_cases faces (face ∷ []) k c) [
        | inl d ↦ settled_at new s.more s.is k d
        | inr d ↦ elim (first_or_later face [] k d) [
          | inl e ↦ subst (λ (j : ℕ). IsSettled a w ls t new (term_of ls j)) e (slots_settle a w ns ls x t face low f middle new s)
          | inr n ↦ absurd (nothing_in k n)
        ]
      ]

-- ---- those that are still open

pub still_none : (a : Assembly) (w : Hierarchy) (ns : List Node) (t : SigType) → AreStill a w ns t [] []
still_none a w ns t = record { are = λ o c. absurd (nothing_in o c); all = λ o slot c. absurd (nothing_in o c) }

module _ (a : Assembly) (w : Hierarchy) (ns : List Node) (t : SigType) (opens left : List Open) (o : Open) (h : AreStill a w ns t opens left) where
  pub still_kept : IsLeft a w ns t o true → AreStill a w ns t (opens ++ o ∷ []) (left ++ o ∷ [])
  still_kept l = record { are = are; all = all }
    where
      are : (p : Open) → Contains (left ++ o ∷ []) p →
          Contains (opens ++ o ∷ []) p × ((slot : Method) → slice_get (methods_in a w (term_of ns p.face)) p.place ≡ Some slot → IsOwnFilled a w t (term_of ns p.face) slot → ⊥)
      are p c = elim (Contains-append_cases left (o ∷ []) p c) [
        | inl d ↦ let r = h.are p d in (Contains-append_left opens (o ∷ []) p r.0, r.1)
        | inr d ↦ elim (first_or_later o [] p d) [
          | inl e ↦ (
            in_right opens (o ∷ []) p d,
            subst (λ (q : Open). (slot : Method) → slice_get (methods_in a w (term_of ns q.face)) q.place ≡ Some slot → IsOwnFilled a w t (term_of ns q.face) slot → ⊥) e (l.left refl),
          )
          | inr n ↦ absurd (nothing_in p n)
        ]
      ]

      all : (p : Open) (slot : Method) → Contains (opens ++ o ∷ []) p → slice_get (methods_in a w (term_of ns p.face)) p.place ≡ Some slot →
          IsOwnFilled a w t (term_of ns p.face) slot ⊎ Contains (left ++ o ∷ []) p
      all p slot c e = elim (Contains-append_cases opens (o ∷ []) p c) [
        | inl d ↦ elim (h.all p slot d e) [ inl f ↦ inl f | inr g ↦ inr (Contains-append_left left (o ∷ []) p g) ]
        | inr d ↦ inr (in_right left (o ∷ []) p d)
      ]

  pub still_gone : IsLeft a w ns t o false → AreStill a w ns t (opens ++ o ∷ []) left
  still_gone l = record { are = λ p c. let r = h.are p c in (Contains-append_left opens (o ∷ []) p r.0, r.1); all = all }
    where
      all : (p : Open) (slot : Method) → Contains (opens ++ o ∷ []) p → slice_get (methods_in a w (term_of ns p.face)) p.place ≡ Some slot → IsOwnFilled a w t (term_of ns p.face) slot ⊎ Contains left p
      all p slot c e = elim (Contains-append_cases opens (o ∷ []) p c) [
        | inl d ↦ h.all p slot d e
        | inr d ↦ elim (first_or_later o [] p d) [
          | inl f ↦ inl (subst (λ (q : Open). slice_get (methods_in a w (term_of ns q.face)) q.place ≡ Some slot → IsOwnFilled a w t (term_of ns q.face) slot) f (λ g. l.filled refl slot g) e)
          | inr n ↦ absurd (nothing_in p n)
        ]
      ]

-- ---- whether a slot is still open

-- a place behind the methods of an interface
pub left_nothing : (a : Assembly) (w : Hierarchy) (ns : List Node) (t : SigType) (o : Open) → slice_get (methods_in a w (term_of ns o.face)) o.place ≡ None → IsLeft a w ns t o false
left_nothing a w ns t o e = record { left = λ r. absurd (true≢false (sym r)); filled = λ r slot g. absurd (none_some e g) }

pub left_undeclared : (a : Assembly) (w : Hierarchy) (ns : List Node) (t : SigType) (o : Open) (d : Option TypeDef) → d ≡ declaration a w (term_of ns o.face) → d ≡ None → IsLeft a w ns t o false
left_undeclared a w ns t o d e n = left_nothing a w ns t o (ap (λ (x : Option TypeDef). slice_get (methods_of x) o.place) (sym e ∙ n))

method_at : (a : Assembly) (w : Hierarchy) (u : SigType) (d : TypeDef) (place : ℕ) (r : Option Method) → Some d ≡ declaration a w u → r ≡ slice_get (out-TypeDef d).methods place →
    slice_get (methods_in a w u) place ≡ r
method_at a w u d place r e f = ap (λ (x : Option TypeDef). slice_get (methods_of x) place) (sym e) ∙ sym f

pub left_behind : (a : Assembly) (w : Hierarchy) (ns : List Node) (t : SigType) (o : Open) (d : TypeDef) → Some d ≡ declaration a w (term_of ns o.face) → None ≡ slice_get (out-TypeDef d).methods o.place →
    IsLeft a w ns t o false
left_behind a w ns t o d e f = left_nothing a w ns t o (method_at a w (term_of ns o.face) d o.place None e f)

not_true : (b : Bool) → IsTrue (not b) → b ≡ false
not_true false e = refl
not_true true e = absurd (true≢false (sym e))

not_false : (b : Bool) → not b ≡ false → b ≡ true
not_false true e = refl
not_false false e = absurd (true≢false e)

pub left_by : (a : Assembly) (w : Hierarchy) (ns : List Node) (t : SigType) (o : Open) (d : TypeDef) (slot : Method) (r : Bool) → Some d ≡ declaration a w (term_of ns o.face) →
    Some slot ≡ slice_get (out-TypeDef d).methods o.place → (IsTrue r ↔ IsOwnFilled a w t (term_of ns o.face) slot) → IsLeft a w ns t o (not r)
left_by a w ns t o d slot r e f i = record {
  left = λ n s g own. true≢false (sym (i.1 (subst (IsOwnFilled a w t (term_of ns o.face)) (sym (same s g)) own)) ∙ not_true r n);
  filled = λ n s g. subst (IsOwnFilled a w t (term_of ns o.face)) (same s g) (i.0 (not_false r n));
}
  where
    same : (s : Method) → slice_get (methods_in a w (term_of ns o.face)) o.place ≡ Some s → slot ≡ s
    same s g = some_same (method_at a w (term_of ns o.face) d o.place (Some slot) e f) g

-- ---- those that are still open, in a world that goes on

left_on : (a : Assembly) (w0 w1 : Content) (at : ℕ) (o : Open) (r : Bool) → Stays w0 w1 → at < length w0.nodes → o.face < length w0.nodes → IsLeft a (hierarchy w1) w1.nodes (type_at w1 at) o r →
    IsLeft a (hierarchy w0) w0.nodes (type_at w0 at) o r
left_on a w0 w1 at o r s at_low low h = record {
  left = λ e slot g own. h.left e slot (to slot g) (subst (λ (u : SigType). IsOwnFilled a (hierarchy w1) u (type_at w1 o.face) slot) (sym t) (own_new slot own));
  filled = λ e slot g. own_old slot (subst (λ (u : SigType). IsOwnFilled a (hierarchy w1) u (type_at w1 o.face) slot) t (h.filled e slot (to slot g)));
}
  where
    t : type_at w1 at ≡ type_at w0 at
    t = s.nodes.terms at at_low

    f : type_at w1 o.face ≡ type_at w0 o.face
    f = s.nodes.terms o.face low

    to : (slot : Method) → slice_get (methods_in a (hierarchy w0) (type_at w0 o.face)) o.place ≡ Some slot → slice_get (methods_in a (hierarchy w1) (type_at w1 o.face)) o.place ≡ Some slot
    to slot g = (λ i. slice_get (methods_in a (hierarchy_in (s.tables i)) (f i)) o.place) ∙ g

    own_new : (slot : Method) → IsOwnFilled a (hierarchy w0) (type_at w0 at) (type_at w0 o.face) slot → IsOwnFilled a (hierarchy w1) (type_at w0 at) (type_at w1 o.face) slot
    own_new slot own =
        subst (λ (ts : Tables). IsOwnFilled a (hierarchy_in ts) (type_at w0 at) (type_at w1 o.face) slot) (sym s.tables)
        (subst (λ (u : SigType). IsOwnFilled a (hierarchy w0) (type_at w0 at) u slot) (sym f) own)

    own_old : (slot : Method) → IsOwnFilled a (hierarchy w1) (type_at w0 at) (type_at w1 o.face) slot → IsOwnFilled a (hierarchy w0) (type_at w0 at) (type_at w0 o.face) slot
    own_old slot own =
        subst (λ (u : SigType). IsOwnFilled a (hierarchy w0) (type_at w0 at) u slot) f
        (subst (λ (ts : Tables). IsOwnFilled a (hierarchy_in ts) (type_at w0 at) (type_at w1 o.face) slot) s.tables own)

module _ (a : Assembly) (w0 w1 : Content) (s : Stays w0 w1) (at : ℕ) (at_low : at < length w0.nodes) (opens : List Open) (low : All (IsWithin (length w0.nodes)) opens) (k : ℕ) (o : Open)
    (k_low : k < length opens) (is : o ≡ get_or opens k o) (left : List Open) (h : AreStill a (hierarchy w0) w0.nodes (type_at w0 at) (take k opens) left) where
  o_low : o.face < length w0.nodes
  o_low = All-contains (IsWithin (length w0.nodes)) opens o low (k, k_low, sym is)

  next_is : take k opens ++ o ∷ [] ≡ take (k + 1) opens
  next_is = ap (λ (x : Open). take k opens ++ x ∷ []) is ∙ sym (take_more opens k o k_low)

  pub still_keep : (r : Bool) → r ≡ true → IsLeft a (hierarchy w1) w1.nodes (type_at w1 at) o r → (new : List Open) → new ≡ left ++ o ∷ [] →
      AreStill a (hierarchy w0) w0.nodes (type_at w0 at) (take (k + 1) opens) new
  still_keep r t l new e =
      subst (λ (x : List Open). AreStill a (hierarchy w0) w0.nodes (type_at w0 at) x new) next_is
      (subst (λ (x : List Open). AreStill a (hierarchy w0) w0.nodes (type_at w0 at) (take k opens ++ o ∷ []) x) (sym e)
      (still_kept a (hierarchy w0) w0.nodes (type_at w0 at) (take k opens) left o h (subst (IsLeft a (hierarchy w0) w0.nodes (type_at w0 at) o) t (left_on a w0 w1 at o r s at_low o_low l))))

  pub still_drop : (r : Bool) → r ≡ false → IsLeft a (hierarchy w1) w1.nodes (type_at w1 at) o r → (new : List Open) → new ≡ left →
      AreStill a (hierarchy w0) w0.nodes (type_at w0 at) (take (k + 1) opens) new
  still_drop r t l new e =
      subst (λ (x : List Open). AreStill a (hierarchy w0) w0.nodes (type_at w0 at) x new) next_is
      (subst (λ (x : List Open). AreStill a (hierarchy w0) w0.nodes (type_at w0 at) (take k opens ++ o ∷ []) x) (sym e)
      (still_gone a (hierarchy w0) w0.nodes (type_at w0 at) (take k opens) left o h (subst (IsLeft a (hierarchy w0) w0.nodes (type_at w0 at) o) t (left_on a w0 w1 at o r s at_low o_low l))))

-- ---- interfaces, in a world that goes on

module _ (a : Assembly) (w0 w1 w2 : Content) (s1 : Stays w0 w1) (s2 : Stays w1 w2) (at : ℕ) (at_low : at < length w0.nodes) (faces : List ℕ) (low : AllBelow (length w0.nodes) faces) (k face : ℕ)
    (k_low : k < length faces) (is : face ≡ get_or faces k face) (old middle : List Open) (h : AddsFaces a (hierarchy w0) w1.nodes (type_at w0 at) (take k faces) old middle) where
  face_low : face < length w1.nodes
  face_low = let f = All-contains (λ j. j < length w0.nodes) faces face low (k, k_low, sym is) in let l = extends_long w0.nodes w1.nodes s1.nodes in omega (arith, f, l)

  faces_low : (j : ℕ) → Contains (take k faces) j → j < length w1.nodes
  faces_low j c = let f = All-contains (λ j. j < length w0.nodes) (take k faces) j (All-take (λ j. j < length w0.nodes) k faces low) c in let l = extends_long w0.nodes w1.nodes s1.nodes in omega (arith, f, l)

  faces_is : take k faces ++ face ∷ [] ≡ take (k + 1) faces
  faces_is = ap (λ (x : ℕ). take k faces ++ x ∷ []) is ∙ sym (take_more faces k face k_low)

  old_face : type_at w1 face ≡ type_at w0 face
  old_face = s1.nodes.terms face (All-contains (λ j. j < length w0.nodes) faces face low (k, k_low, sym is))

  pub face_more : (new : List Open) → IsFace a (hierarchy w0) (type_at w0 at) (type_at w0 face) →
      AddsSlots a (hierarchy w1) w2.nodes (type_at w1 at) face (methods_in a (hierarchy w1) (type_at w1 face)) middle new → AddsFaces a (hierarchy w0) w2.nodes (type_at w0 at) (take (k + 1) faces) old new
  face_more new f s =
      let of_old : AddsSlots a (hierarchy w0) w2.nodes (type_at w0 at) face (methods_in a (hierarchy w0) (type_at w1 face)) middle new =
      subst (λ (u : SigType). AddsSlots a (hierarchy w0) w2.nodes u face (methods_in a (hierarchy w0) (type_at w1 face)) middle new) (s1.nodes.terms at at_low)
      (subst (λ (ts : Tables). AddsSlots a (hierarchy_in ts) w2.nodes (type_at w1 at) face (methods_in a (hierarchy_in ts) (type_at w1 face)) middle new) s1.tables s) in
      subst (λ (x : List ℕ). AddsFaces a (hierarchy w0) w2.nodes (type_at w0 at) x old new) faces_is
      (faces_more a (hierarchy w0) w1.nodes w2.nodes s2.nodes (type_at w0 at) (take k faces) faces_low face face_low old middle h new
      (subst (IsFace a (hierarchy w0) (type_at w0 at)) (sym old_face) f) of_old)

-- the slots of the interfaces so far
pub record FacesSoFar (a : Assembly) (w0 w : Content) (at : ℕ) (faces : List ℕ) (old new : List Open) : Type 0 where
  pub stays : Stays w0 w
  pub adds : AddsFaces a (hierarchy w0) w.nodes (type_at w0 at) faces old new
