-- What types offer, as it is read.
use Rattle.std.proofs.Common.{arith, ◌≡◌, ◌∙◌, refl, sym, ap, subst, ◌⊎◌, inl, inr, ◌↔◌, ℕ, ◌<◌, Bool, true, false, true≢false, ◌&&◌, ◌||◌, not, ◌==◌, List, [], ◌∷◌, length, None, Some, IsTrue}
use Rattle.std.specs.List.{Contains, flat_map, list_any}
use Rattle.std.proofs.lemmas.Bool.Decides.{nat_tests}
use Rattle.type_terms.specs.declared.reference.MethodRef.{MethodRef}
use Rattle.type_terms.specs.declared.term.SigType.{SigType}
use Rattle.assembly_tree.specs.declared.assembly.Assembly.{Assembly}
use Rattle.assembly_tree.specs.declared.members.Method.{Method}
use Rattle.assembly_tree.specs.declared.typedef.TypeDef.{TypeDef}
use Rattle.sig_pool.specs.declared.node.Node.{Node}
use Rattle.sig_pool.specs.Pool.{Extends, Has}
use Rattle.sig_pool.specs.Terms.{term_of}
use Rattle.type_hierarchy.specs.Tables.{hierarchy_in}
use Rattle.type_hierarchy.specs.World.{Content, Stays, hierarchy, type_at}
use Rattle.type_hierarchy.specs.declared.tables.Tables.{Tables}
use Rattle.type_hierarchy.specs.Hierarchy.{Hierarchy, Chain, alone, further, parent, object}
use Rattle.type_hierarchy.proofs.Climbing.{Next, none, some, next_step, some_same, chain_trans}
use Rattle.type_hierarchy.proofs.GrowLemmas.{has_extends, below_extends}
use Rattle.type_order.specs.Found.{IsLedTo}
use Rattle.type_order.specs.Parts.{type_arguments}
use Rattle.class_faces.specs.Ids.{AreIds}
use Rattle.class_faces.specs.Marked.{is_face, is_overriding, overrides_some}
use Rattle.class_faces.specs.declared.faces.Faces.{Faces}
use Rattle.class_faces.proofs.Walking.{within_one}
use Rattle.class_model.specs.Classes.{declaration}
use Rattle.class_model.specs.Filled.{IsFilled}
use Rattle.class_model.specs.Slots.{methods_in}
use Rattle.class_model.proofs.Members.{nothing_in, first_or_later}
use Rattle.class_members.specs.Facts.{Adds, IsFact, IsKeyOf}
use Rattle.class_members.specs.Offers.{Offer, own_offers, overrides_by, offers_by, override_offers, overrides_in, offers_in, object_offers, IsByFresh, IsByObject, IsOffered}
use Rattle.class_members.specs.Wants.{IsAnswered}
use Rattle.class_members.proofs.Finding.{fact_extends, one_offer}
use Rattle.class_members.proofs.Lists.{in_all, in_some, in_right}
use Rattle.class_members.proofs.Filling.{filled_is_offered}
use Rattle.class_members.proofs.Worlds.{stays_on}
use Rattle.class_notes.specs.Fresh.{AreLedFaces}
use Rattle.class_notes.specs.Reading.{AreTrue, IsRead, IsReadAbove, Reads, AddsObject, IsOwnFilled}
use Rattle.class_notes.proofs.Growing.{true_grows, above_grows}

-- ---- a type's own offers

-- an override is also an offer of its type
offers_too : (a : Assembly) (w : Hierarchy) (t : SigType) (x : Offer) → Contains (overrides_in a w t) x → Contains (offers_in a w t) x
offers_too a w t x c =
    let r = in_some (overrides_by w (type_arguments t)) (methods_in a w t) x c in
    in_all (offers_by w (type_arguments t)) (methods_in a w t) r.0 x r.1 (in_right (own_offers w (type_arguments t) r.0) (overrides_by w (type_arguments t) r.0) x r.2)

some_left : (m : Method) (o : MethodRef) → Contains m.overrides o → overrides_some m ≡ true
some_left m o c = not_empty m.overrides c
  where
    not_empty : (os : List MethodRef) → Contains os o → not (length os == 0) ≡ true
    not_empty [] c = absurd (nothing_in o c)
    not_empty (p ∷ os) c = let z : (length (p ∷ os) == 0) ≡ false = grind (arith, nat_tests) in ap not z

or_right : (a b : Bool) → b ≡ true → (a || b) ≡ true
or_right true b e = refl
or_right false b e = e

or_left : (a b : Bool) → a ≡ true → (a || b) ≡ true
or_left true b e = refl
or_left false b e = absurd (true≢false (sym e))

any_of : (ms : List Method) (m : Method) → Contains ms m → overrides_some m ≡ true → list_any overrides_some ms ≡ true
any_of [] m c e = absurd (nothing_in m c)
any_of (n ∷ ms) m c e = elim (first_or_later n ms m c) [
  | inl f ↦ or_left (overrides_some n) (list_any overrides_some ms) (ap overrides_some f ∙ e)
  | inr d ↦ or_right (overrides_some n) (list_any overrides_some ms) (any_of ms m d e)
]

and_both : (a b : Bool) → a ≡ true → b ≡ true → (a && b) ≡ true
and_both true b e f = f
and_both false b e f = absurd (true≢false (sym e))

and_left : (a b : Bool) → (a && b) ≡ true → a ≡ true
and_left true b e = refl
and_left false b e = e

-- an interface with an override overrides
overriding : (a : Assembly) (w : Hierarchy) (d : SigType) (x : Offer) → IsTrue (is_face a w d) → Contains (overrides_in a w d) x → IsTrue (is_overriding a w d)
overriding a w d x f c =
    let r = in_some (overrides_by w (type_arguments d)) (methods_in a w d) x c in
    let o = in_some (override_offers w (type_arguments d)) r.0.overrides x r.2 in
    and_both (is_face a w d) (list_any overrides_some (methods_in a w d)) f (any_of (methods_in a w d) r.0 r.1 (some_left r.0 o.0 o.1))

module _ (a : Assembly) (w : Hierarchy) (ns ms ls : List Node) (at : ℕ) (t : SigType) (led : Faces) (old one two new : List (List ℕ)) (x : Extends ns ms) (y : Extends ms ls)
    (l : AreLedFaces a w ns t led) (own : Adds ns at (offers_in a w t) old one) where
  module _ (over : Adds ms at (flat_map (λ k. overrides_in a w (term_of ns k)) led.overriding) one two) (obj : AddsObject a w ls at t two new) where
    two_kept : (k : List ℕ) → Contains two k → Contains new k
    two_kept k c = elim obj [ inl p ↦ p.1.kept k c | inr p ↦ subst (λ (f : List (List ℕ)). Contains f k) (sym p.1) c ]

    own_has : (o : Offer) → Contains (offers_in a w t) o → (fact : List ℕ) × IsFact ls at o fact × Contains new fact
    own_has o c =
        let h = own.has o c in
        (h.0, fact_extends ms ls at o h.0 y (fact_extends ns ms at o h.0 x h.1), two_kept h.0 (over.kept h.0 h.2))

    fresh_has : (o : Offer) → IsByFresh a w t o → (fact : List ℕ) × IsFact ls at o fact × Contains new fact
    fresh_has o b = elim b.fresh.above [
      | inl e ↦ own_has o (offers_too a w t o (subst (λ (d : SigType). Contains (overrides_in a w d) o) e b.among))
      | inr m ↦
          let i = l.overriding.all b.face (m, overriding a w b.face o b.fresh.is b.among) in
          let c = in_all (λ k. overrides_in a w (term_of ns k)) led.overriding i.id o i.among (subst (λ (d : SigType). Contains (overrides_in a w d) o) (sym i.is) b.among) in
          let h = over.has o c in
          (h.0, fact_extends ms ls at o h.0 y h.1, two_kept h.0 h.2)
    ]

    object_has : (o : Offer) → IsByObject a w t o → (fact : List ℕ) × IsFact ls at o fact × Contains new fact
    object_has o b = elim obj [ inl p ↦ p.1.has o b.among | inr p ↦ absurd (p.0 (b.is, b.undeclared)) ]

    reads_has : (o : Offer) → IsOffered a w t o → (fact : List ℕ) × IsFact ls at o fact × Contains new fact
    reads_has o (inl c) = own_has o c
    reads_has o (inr (inl b)) = fresh_has o b
    reads_has o (inr (inr b)) = object_has o b

    abbrev Kinds : List ℕ → Type 0
    Kinds k = Contains old k ⊎ ((o : Offer) × IsOffered a w t o × IsFact ls at o k)

    own_only : (k : List ℕ) → Contains one k → Kinds k
    own_only k c = elim (own.only k c) [
      | inl d ↦ inl d
      | inr o ↦ inr (o.offer, inl o.among, fact_extends ms ls at o.offer k y (fact_extends ns ms at o.offer k x o.is))
    ]

    two_only : (k : List ℕ) → Contains two k → Kinds k
    two_only k c = elim (over.only k c) [
      | inl d ↦ own_only k d
      | inr o ↦
          let r = in_some (λ j. overrides_in a w (term_of ns j)) led.overriding o.offer o.among in
          let p = l.overriding.are r.0 r.1 in
          inr (
            o.offer,
            inr (inl (record {
              face = term_of ns r.0;
              fresh = record { is = and_left (is_face a w (term_of ns r.0)) (list_any overrides_some (methods_in a w (term_of ns r.0))) p.1; above = inr p.0 };
              among = r.2;
            })),
            fact_extends ms ls at o.offer k y o.is,
          )
    ]

    reads_only : (k : List ℕ) → Contains new k → Kinds k
    reads_only k c = elim obj [
      | inl p ↦ elim (p.1.only k c) [
        | inl d ↦ two_only k d
        | inr o ↦ inr (o.offer, inr (inr (record { is = p.0.0; undeclared = p.0.1; among = o.among })), o.is)
      ]
      | inr p ↦ two_only k (subst (λ (f : List (List ℕ)). Contains f k) p.1 c)
    ]

    pub reads_all : Reads a w ls at t old new
    reads_all = record { kept = λ k c. two_kept k (over.kept k (own.kept k c)); has = reads_has; only = reads_only }

-- ---- in a world that goes on

pub ids_grow : (ns ms : List Node) (P : SigType → Type 0) (ids : List ℕ) → Extends ns ms → AreIds ns P ids → AreIds ms P ids
ids_grow ns ms P ids x h = record {
  within = below_extends ns ms ids x h.within;
  are = λ id c. subst P (sym (x.terms id (within_one ids (length ns) id h.within c))) (h.are id c);
  all = λ t p. let k = h.all t p in record { id = k.id; among = k.among; is = x.terms k.id (within_one ids (length ns) k.id h.within k.among) ∙ k.is };
}

pub led_grows : (a : Assembly) (w : Hierarchy) (ns ms : List Node) (t : SigType) (f : Faces) → Extends ns ms → AreLedFaces a w ns t f → AreLedFaces a w ms t f
led_grows a w ns ms t f x h = record {
  all = ids_grow ns ms (λ d. IsLedTo w t d × IsTrue (is_face a w d)) f.all x h.all;
  overriding = ids_grow ns ms (λ d. IsLedTo w t d × IsTrue (is_overriding a w d)) f.overriding x h.overriding;
}

module _ (a : Assembly) (w0 w1 w2 : Content) (ls : List Node) (at : ℕ) (low : at < length w0.nodes) (s1 : Stays w0 w1) (s2 : Stays w1 w2) (x : Extends w2.nodes ls) (led : Faces)
    (slice : List ℕ) (e : slice ≡ led.overriding) (old one two new : List (List ℕ)) (l : AreLedFaces a (hierarchy w0) w0.nodes (type_at w0 at) led)
    (own : Adds w1.nodes at (offers_in a (hierarchy w0) (type_at w0 at)) old one)
    (over : Adds w2.nodes at (flat_map (λ k. overrides_in a (hierarchy w1) (type_at w1 k)) slice) one two) (obj : AddsObject a (hierarchy w2) ls at (type_at w2 at) two new) where
  abbrev h0 : Hierarchy
  h0 = hierarchy w0

  s12 : Stays w0 w2
  s12 = stays_on w0 w1 w2 s1 s2

  over_old : Adds w2.nodes at (flat_map (λ k. overrides_in a h0 (term_of w1.nodes k)) led.overriding) one two
  over_old = subst (λ (os : List Offer). Adds w2.nodes at os one two) (λ i. flat_map (λ k. overrides_in a (hierarchy_in (s1.tables i)) (term_of w1.nodes k)) (e i)) over

  obj_old : AddsObject a h0 ls at (type_at w0 at) two new
  obj_old =
      subst (λ (u : SigType). AddsObject a h0 ls at u two new) (s12.nodes.terms at low)
      (subst (λ (ts : Tables). AddsObject a (hierarchy_in ts) ls at (type_at w2 at) two new) s12.tables obj)

  pub read_is : Reads a h0 ls at (type_at w0 at) old new
  read_is = reads_all a h0 w1.nodes w2.nodes ls at (type_at w0 at) led old one two new s2.nodes x (led_grows a h0 w0.nodes w1.nodes (type_at w0 at) led s1.nodes l) own over_old obj_old

-- ---- Object

-- the types of two ids, as the pool is lent
pub same_types : (pool ns : List Node) (i j at key : ℕ) (r : Bool) → pool ≡ ns → i ≡ at → j ≡ key → (IsTrue r ↔ (term_of pool i ≡ term_of pool j)) →
    IsTrue r ↔ (term_of ns at ≡ term_of ns key)
same_types pool ns i j at key r p e f h =
    let first : term_of pool i ≡ term_of ns at = λ k. term_of (p k) (e k) in
    let second : term_of pool j ≡ term_of ns key = λ k. term_of (p k) (f k) in
    (λ t. sym first ∙ h.0 t ∙ second, λ q. h.1 (first ∙ q ∙ sym second))

module _ (a : Assembly) (w0 w1 : Content) (s : Stays w0 w1) (at : ℕ) (low : at < length w0.nodes) (key : ℕ) (h : Has w1.nodes key object) where
  pub other_type : (ms : List Node) (facts : List (List ℕ)) (r : Bool) → r ≡ false → (IsTrue r ↔ (term_of w1.nodes at ≡ term_of w1.nodes key)) →
      AddsObject a (hierarchy w0) ms at (type_at w0 at) facts facts
  other_type ms facts r e f = inr (λ b. true≢false (sym (f.1 (s.nodes.terms at low ∙ b.0 ∙ sym h.term)) ∙ e), refl)

  pub declared_object : (ms : List Node) (facts : List (List ℕ)) (d : TypeDef) → Some d ≡ declaration a (hierarchy w1) (type_at w1 key) → AddsObject a (hierarchy w0) ms at (type_at w0 at) facts facts
  declared_object ms facts d e =
      let g : Some d ≡ declaration a (hierarchy w0) object = e ∙ (λ i. declaration a (hierarchy_in (s.tables i)) (h.term i)) in
      inr (λ b. (let q : ⊥ = let k : Some d ≡ None = g ∙ b.1 in cc in q), refl)

  pub bare_object : (ms : List Node) (old new : List (List ℕ)) (r : Bool) → r ≡ true → (IsTrue r ↔ (term_of w1.nodes at ≡ term_of w1.nodes key)) →
      None ≡ declaration a (hierarchy w1) (type_at w1 key) → Adds ms at object_offers old new → AddsObject a (hierarchy w0) ms at (type_at w0 at) old new
  bare_object ms old new r t f e adds =
      let g : None ≡ declaration a (hierarchy w0) object = e ∙ (λ i. declaration a (hierarchy_in (s.tables i)) (h.term i)) in
      inl ((sym (s.nodes.terms at low) ∙ f.0 t ∙ h.term, sym g), adds)

-- ---- what is read of a type and its ancestors

module _ (a : Assembly) (w : Hierarchy) (ns ms : List Node) (at : ℕ) (t : SigType) (old new : List (List ℕ)) (x : Extends ns ms) (h : Has ns at t) (r : Reads a w ms at t old new) where
  pub reads_true : AreTrue a w ns old → AreTrue a w ms new
  reads_true f k c = elim (r.only k c) [
    | inl d ↦ true_grows a w ns ms x old f k d
    | inr p ↦ record { id = at; type = t; has = has_extends ns ms at t h x; offer = p.0; is = p.2; offered = p.1 }
  ]

  own_read : IsRead a w ms new t
  own_read o c = let p = r.has o c in record { id = at; has = has_extends ns ms at t h x; fact = p.0; is = p.1; among = p.2 }

  pub read_top : parent w t ≡ None → IsReadAbove a w ms new t
  read_top e u c = go (next_step w c)
    where
      go : Next w t u → IsRead a w ms new u
      go (none f) = subst (IsRead a w ms new) (sym f) own_read
      go (some f d) = let q : ⊥ = cc in absurd q

  pub read_below : (p : SigType) → parent w t ≡ Some p → IsReadAbove a w ns old p → IsReadAbove a w ms new t
  read_below p e above u c = go (next_step w c)
    where
      go : Next w t u → IsRead a w ms new u
      go (none f) = subst (IsRead a w ms new) (sym f) own_read
      go (some f d) = above_grows a w ns ms x old new p r.kept above u (subst (λ (q : SigType). Chain w q u) (some_same f e) d)

-- ---- what is found among facts

-- a fact of an id says what its type offers
module _ (a : Assembly) (w : Hierarchy) (ns : List Node) (facts : List (List ℕ)) (f : AreTrue a w ns facts) where
  head : {n m : ℕ} {k l : List ℕ} → n ∷ k ≡ m ∷ l → n ≡ m
  head e = cc

  rest : {n m : ℕ} {k l : List ℕ} → n ∷ k ≡ m ∷ l → k ≡ l
  rest e = cc

  pub offered_by : (id : ℕ) (t : SigType) (x : Offer) (key : List ℕ) → Has ns id t → IsKeyOf ns x key → Contains facts (id ∷ key) → IsOffered a w t x
  offered_by id t x key h k c =
      let g = f (id ∷ key) c in
      let same : g.id ≡ id = sym (head g.is.is) in
      let type : g.type ≡ t = sym g.has.term ∙ ap (term_of ns) same ∙ h.term in
      let offer : g.offer ≡ x = one_offer ns g.offer x g.is.key key g.is.of k (sym (rest g.is.is)) in
      subst (λ (s : SigType). IsOffered a w s x) type (subst (IsOffered a w g.type) offer g.offered)

-- ---- one step up

module _ (a : Assembly) (w : Hierarchy) (t face : SigType) (slot : Method) where
  -- a type that fills a slot itself has a method for it
  pub own_fills : IsOwnFilled a w t face slot → IsFilled a w t face slot
  own_fills o = (filled_is_offered a w t face slot).1 (record { want = o.want; among = o.among; above = record { at = t; chain = alone; offered = o.offered } })

  -- a type has the methods of its parent
  pub filled_above : (p : SigType) → parent w t ≡ Some p → IsFilled a w p face slot → IsFilled a w t face slot
  filled_above p e f =
      let n = (filled_is_offered a w p face slot).0 f in
      (filled_is_offered a w t face slot).1
      (record { want = n.want; among = n.among; above = record { at = n.above.at; chain = chain_trans w (further alone e) n.above.chain; offered = n.above.offered } })

  step_cases : (p : SigType) → parent w t ≡ Some p → (n : IsAnswered a w t face slot) → Next w t n.above.at → IsOwnFilled a w t face slot ⊎ IsFilled a w p face slot
  step_cases p e n (none f) = inl (record { want = n.want; among = n.among; offered = subst (λ (s : SigType). IsOffered a w s n.want) f n.above.offered })
  step_cases p e n (some f d) =
      inr ((filled_is_offered a w p face slot).1
      (record { want = n.want; among = n.among; above = record { at = n.above.at; chain = subst (λ (q : SigType). Chain w q n.above.at) (some_same f e) d; offered = n.above.offered } }))

  pub filled_cases : (p : SigType) → parent w t ≡ Some p → IsFilled a w t face slot → IsOwnFilled a w t face slot ⊎ IsFilled a w p face slot
  filled_cases p e f = let n = (filled_is_offered a w t face slot).0 f in step_cases p e n (next_step w n.above.chain)

  top_cases : parent w t ≡ None → (n : IsAnswered a w t face slot) → Next w t n.above.at → IsOwnFilled a w t face slot
  top_cases e n (none f) = record { want = n.want; among = n.among; offered = subst (λ (s : SigType). IsOffered a w s n.want) f n.above.offered }
  top_cases e n (some f d) = let q : ⊥ = cc in absurd q

  pub filled_top : parent w t ≡ None → IsFilled a w t face slot → IsOwnFilled a w t face slot
  filled_top e f = let n = (filled_is_offered a w t face slot).0 f in top_cases e n (next_step w n.above.chain)
