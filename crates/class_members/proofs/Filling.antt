-- What fills a slot is what a type of the chain offers.
use Rattle.std.proofs.Common.{◌≡◌, ◌∙◌, refl, sym, ap, subst, ◌⊎◌, inl, inr, ◌↔◌, Bool, true, false, true≢false, if◌then◌else◌, List, [], ◌∷◌, map, None, Some, IsTrue}
use Rattle.std.specs.List.{Contains}
use Rattle.std.proofs.lemmas.List.Elements.{Contains-append_left, Contains-append_cases}
use Rattle.type_terms.specs.declared.reference.MethodRef.{MethodRef}
use Rattle.type_terms.specs.declared.term.SigType.{SigType}
use Rattle.assembly_tree.specs.declared.assembly.Assembly.{Assembly}
use Rattle.assembly_tree.specs.declared.members.Method.{Method}
use Rattle.type_hierarchy.specs.Hierarchy.{Hierarchy, Chain, Up, to_interface, object}
use Rattle.type_hierarchy.proofs.Climbing.{up_trans, chain_up}
use Rattle.type_order.specs.Parts.{type_arguments}
use Rattle.type_order.proofs.LedLemmas.{above_cases}
use Rattle.class_model.specs.Filled.{object_members, ByMember, ByObject, ByOverride, NamesSlot, IsFilled}
use Rattle.class_model.specs.Slots.{IsFace, is_provider, methods_in, plain_sig, sig_of}
use Rattle.class_model.proofs.Members.{nothing_in, first_in, later_in, first_or_later}
use Rattle.class_members.specs.Offers.{Offer, own_offers, override_owner, override_offers, overrides_by, offers_by, overrides_in, offers_in, member_offer, IsFresh, IsByObject, IsOffered, IsOfferedAbove}
use Rattle.class_members.specs.Wants.{member_want, written_want, applied_want, wants, IsAnswered}
use Rattle.class_members.proofs.Lists.{in_all, in_some, in_right}

offer_is : (x y : Offer) → x.put ≡ y.put → x.owner ≡ y.owner → x.name ≡ y.name → x.sig ≡ y.sig → x ≡ y
offer_is x y a b c d = λ i. record { put = a i; owner = b i; name = c i; sig = d i }

in_map : {X Y : Type 0} (f : X → Y) (xs : List X) (x : X) → Contains xs x → Contains (map f xs) (f x)
in_map f [] x c = absurd (nothing_in x c)
in_map f (z ∷ xs) x c = elim (first_or_later z xs x c) [
  | inl e ↦ subst (λ y. Contains (f z ∷ map f xs) (f y)) e (first_in (f z) (map f xs))
  | inr d ↦ later_in (f z) (map f xs) (f x) (in_map f xs x d)
]

of_map : {X Y : Type 0} (f : X → Y) (xs : List X) (y : Y) → Contains (map f xs) y → (x : X) × Contains xs x × (y ≡ f x)
of_map f [] y c = absurd (nothing_in y c)
of_map f (z ∷ xs) y c = elim (first_or_later (f z) (map f xs) y c) [
  | inl e ↦ (z, first_in z xs, sym e)
  | inr d ↦ let r = of_map f xs y d in (r.0, later_in z xs r.0 r.1, r.2)
]

module _ (a : Assembly) (w : Hierarchy) (t face : SigType) (slot : Method) where
  -- ---- one of three is wanted

  abbrev m1 : Offer
  m1 = member_want w face slot

  abbrev m2 : Offer
  m2 = written_want w face slot

  abbrev m3 : Offer
  m3 = applied_want w face slot

  -- which of them
  pub data Which (x : Offer) : Type 0 where
    the_member : m1 ≡ x → Which x
    the_written : m2 ≡ x → Which x
    the_applied : m3 ≡ x → Which x

  which : (x : Offer) → Contains (wants w face slot) x → Which x
  which x c = elim (first_or_later m1 (m2 ∷ m3 ∷ []) x c) [
    | inl e ↦ the_member e
    | inr l ↦ elim (first_or_later m2 (m3 ∷ []) x l) [
      | inl e ↦ the_written e
      | inr k ↦ elim (first_or_later m3 [] x k) [ inl e ↦ the_applied e | inr n ↦ absurd (nothing_in x n) ]
    ]
  ]

  want_member : Contains (wants w face slot) (member_want w face slot)
  want_member = first_in m1 (m2 ∷ m3 ∷ [])

  want_written : Contains (wants w face slot) (written_want w face slot)
  want_written = later_in m1 (m2 ∷ m3 ∷ []) m2 (first_in m2 (m3 ∷ []))

  want_applied : Contains (wants w face slot) (applied_want w face slot)
  want_applied = later_in m1 (m2 ∷ m3 ∷ []) m3 (later_in m2 (m3 ∷ []) m3 (first_in m3 []))

  -- ---- from a filled slot

  own_offered : (d : SigType) (m : Method) (b : Bool) → is_provider m ≡ b → IsTrue b → m.name ≡ slot.name → sig_of w d m.sig ≡ sig_of w face slot.sig →
      Contains (if b then record { put = true; owner = None; name = m.name; sig = sig_of w d m.sig } ∷ [] else []) (member_want w face slot)
  own_offered d m true e h n s =
      subst (λ (x : Offer). Contains (record { put = true; owner = None; name = m.name; sig = sig_of w d m.sig } ∷ []) x)
      (offer_is (record { put = true; owner = None; name = m.name; sig = sig_of w d m.sig }) (member_want w face slot) refl refl n s) (first_in (record { put = true; owner = None; name = m.name; sig = sig_of w d m.sig }) [])
  own_offered d m false e h n s = absurd (true≢false (sym h))

  by_member : ByMember a w t face slot → IsAnswered a w t face slot
  by_member b =
      let args : List SigType = type_arguments b.declarer in
      let own : Contains (own_offers w args b.method) (member_want w face slot) = own_offered b.declarer b.method (is_provider b.method) refl b.provides b.name b.sig in
      let one : Contains (offers_by w args b.method) (member_want w face slot) = Contains-append_left (own_offers w args b.method) (overrides_by w args b.method) _ own in
      record {
        want = member_want w face slot;
        among = want_member;
        above = record { at = b.declarer; chain = b.chain; offered = inl (in_all (offers_by w args) (methods_in a w b.declarer) b.method _ b.among one) };
      }

  by_object : ByObject a w t face slot → IsAnswered a w t face slot
  by_object b = record {
    want = member_want w face slot;
    among = want_member;
    above = record {
      at = object;
      chain = b.chain;
      offered = inr (inr (record { is = refl; undeclared = b.undeclared; among = in_map member_offer object_members _ b.has }));
    };
  }

  abbrev writing : SigType → MethodRef → Offer
  writing d o = record { put = false; owner = Some (override_owner w (type_arguments d) o); name = o.name; sig = plain_sig w o.sig }

  abbrev applying : SigType → MethodRef → Offer
  applying d o = record { put = true; owner = Some (override_owner w (type_arguments d) o); name = o.name; sig = sig_of w d o.sig }

  -- which of the two ways an override names the slot
  override_offered : (d : SigType) (o : MethodRef) → NamesSlot w d face slot o →
      (x : Offer) × Contains (wants w face slot) x × Contains (override_offers w (type_arguments d) o) x
  override_offered d o n = elim n.sig [
    | inl e ↦ (
      written_want w face slot,
      want_written,
      subst (Contains (override_offers w (type_arguments d) o))
          (offer_is (record { put = false; owner = Some (override_owner w (type_arguments d) o); name = o.name; sig = plain_sig w o.sig }) (written_want w face slot) refl (ap Some n.owner) n.name e)
          (first_in (writing d o) (applying d o ∷ [])),
    )
    | inr e ↦ (
      applied_want w face slot,
      want_applied,
      subst (Contains (override_offers w (type_arguments d) o))
          (offer_is (record { put = true; owner = Some (override_owner w (type_arguments d) o); name = o.name; sig = sig_of w d o.sig }) (applied_want w face slot) refl (ap Some n.owner) n.name e)
          (later_in (writing d o) (applying d o ∷ []) (applying d o) (first_in (applying d o) [])),
    )
  ]

  overrides_have : (d : SigType) (m : Method) (o : MethodRef) (x : Offer) → Contains (methods_in a w d) m → Contains m.overrides o → Contains (override_offers w (type_arguments d) o) x →
      Contains (overrides_in a w d) x
  overrides_have d m o x c h g = in_all (overrides_by w (type_arguments d)) (methods_in a w d) m x c (in_all (override_offers w (type_arguments d)) m.overrides o x h g)

  offers_have : (d : SigType) (m : Method) (o : MethodRef) (x : Offer) → Contains (methods_in a w d) m → Contains m.overrides o → Contains (override_offers w (type_arguments d) o) x →
      Contains (offers_in a w d) x
  offers_have d m o x c h g =
      in_all (offers_by w (type_arguments d)) (methods_in a w d) m x c
      (in_right (own_offers w (type_arguments d) m) (overrides_by w (type_arguments d) m) x (in_all (override_offers w (type_arguments d)) m.overrides o x h g))

  by_face : (d : SigType) → IsFace a w t d → (x : Offer) → Contains (overrides_in a w d) x → IsOfferedAbove a w t x
  by_face d f x c = elim (above_cases w f.up) [
    | inl h ↦ record { at = d; chain = h; offered = inr (inl (record { face = d; fresh = record { is = f.is; above = inl refl }; among = c })) }
    | inr l ↦ record { at = l.at; chain = l.chain; offered = inr (inl (record { face = d; fresh = record { is = f.is; above = inr l.led }; among = c })) }
  ]

  by_override : ByOverride a w t face slot → IsAnswered a w t face slot
  by_override b =
      let o = override_offered b.declarer b.override b.names in
      record {
        want = o.0;
        among = o.1;
        above = elim b.above [
          | inl c ↦
              record { at = b.declarer; chain = c; offered = inl (offers_have b.declarer b.method b.override o.0 b.among b.has o.2) }
          | inr f ↦ by_face b.declarer f o.0 (overrides_have b.declarer b.method b.override o.0 b.among b.has o.2)
        ];
      }

  answered : IsFilled a w t face slot → IsAnswered a w t face slot
  answered (inl b) = by_member b
  answered (inr (inl b)) = by_object b
  answered (inr (inr b)) = by_override b

  -- ---- to a filled slot

  -- what an override offers that is wanted
  names_written : (d : SigType) (o : MethodRef) (x : Offer) → writing d o ≡ x → Which x → NamesSlot w d face slot o
  names_written d o x e (the_member f) = let q : true ≡ false = ap (λ (y : Offer). y.put) (f ∙ sym e) in absurd (true≢false q)
  names_written d o x e (the_written f) =
      let q : writing d o ≡ m2 = e ∙ sym f in
      let owner : Some (override_owner w (type_arguments d) o) ≡ Some face = ap (λ (y : Offer). y.owner) q in
      record { owner = cc; name = ap (λ (y : Offer). y.name) q; sig = inl (ap (λ (y : Offer). y.sig) q) }
  names_written d o x e (the_applied f) = let q : true ≡ false = ap (λ (y : Offer). y.put) (f ∙ sym e) in absurd (true≢false q)

  names_applied : (d : SigType) (o : MethodRef) (x : Offer) → applying d o ≡ x → Which x → NamesSlot w d face slot o
  names_applied d o x e (the_member f) =
      let q : Some (override_owner w (type_arguments d) o) ≡ None = ap (λ (y : Offer). y.owner) (e ∙ sym f) in
      let r : ⊥ = cc in
      absurd r
  names_applied d o x e (the_written f) = let q : true ≡ false = ap (λ (y : Offer). y.put) (e ∙ sym f) in absurd (true≢false q)
  names_applied d o x e (the_applied f) =
      let q : applying d o ≡ m3 = e ∙ sym f in
      let owner : Some (override_owner w (type_arguments d) o) ≡ Some face = ap (λ (y : Offer). y.owner) q in
      record { owner = cc; name = ap (λ (y : Offer). y.name) q; sig = inr (ap (λ (y : Offer). y.sig) q) }

  names_by : (d : SigType) (o : MethodRef) (x : Offer) → Contains (override_offers w (type_arguments d) o) x → Contains (wants w face slot) x → NamesSlot w d face slot o
  names_by d o x c h = elim (first_or_later (writing d o) (applying d o ∷ []) x c) [
    | inl e ↦ names_written d o x e (which x h)
    | inr l ↦ elim (first_or_later (applying d o) [] x l) [
      | inl e ↦ names_applied d o x e (which x h)
      | inr n ↦ absurd (nothing_in x n)
    ]
  ]

  -- a wanted offer without an owner is the member
  not_member : (x : Offer) → x.owner ≡ None → Which x → x ≡ m1
  not_member x e (the_member f) = sym f
  not_member x e (the_written f) =
      let q : Some face ≡ None = ap (λ (y : Offer). y.owner) f ∙ e in
      let r : ⊥ = cc in
      absurd r
  not_member x e (the_applied f) =
      let q : Some face ≡ None = ap (λ (y : Offer). y.owner) f ∙ e in
      let r : ⊥ = cc in
      absurd r

  is_member : (x : Offer) → Contains (wants w face slot) x → x.owner ≡ None → x ≡ m1
  is_member x c e = not_member x e (which x c)

  override_fills : (d : SigType) → Chain w t d ⊎ IsFace a w t d → (m : Method) → Contains (methods_in a w d) m → (x : Offer) → Contains (overrides_by w (type_arguments d) m) x →
      Contains (wants w face slot) x → IsFilled a w t face slot
  override_fills d above m c x o h =
      let r = in_some (override_offers w (type_arguments d)) m.overrides x o in
      inr (inr (record { declarer = d; above = above; method = m; among = c; override = r.0; has = r.1; names = names_by d r.0 x r.2 h }))

  own_fills : (d : SigType) → Chain w t d → (m : Method) → Contains (methods_in a w d) m → (x : Offer) (b : Bool) → is_provider m ≡ b →
      Contains (if b then record { put = true; owner = None; name = m.name; sig = sig_of w d m.sig } ∷ [] else []) x → Contains (wants w face slot) x → IsFilled a w t face slot
  own_fills d ch m c x true e o h = elim (first_or_later (record { put = true; owner = None; name = m.name; sig = sig_of w d m.sig }) [] x o) [
    | inl f ↦
        let q : record { put = true; owner = None; name = m.name; sig = sig_of w d m.sig } ≡ member_want w face slot = f ∙ is_member x h (sym (ap (λ (y : Offer). y.owner) f)) in
        inl (record { declarer = d; chain = ch; method = m; among = c; provides = e; name = ap (λ (y : Offer). y.name) q; sig = ap (λ (y : Offer). y.sig) q })
    | inr n ↦ absurd (nothing_in x n)
  ]
  own_fills d ch m c x false e o h = absurd (nothing_in x o)

  object_fills : (d : SigType) → Chain w t d → (x : Offer) → IsByObject a w d x → Contains (wants w face slot) x → IsFilled a w t face slot
  object_fills d ch x b h =
      let r = of_map member_offer object_members x b.among in
      let q : member_offer r.0 ≡ member_want w face slot = sym r.2 ∙ is_member x h (ap (λ (y : Offer). y.owner) r.2) in
      let m : r.0 ≡ record { name = slot.name; sig = sig_of w face slot.sig } = λ i. record { name = (q i).name; sig = (q i).sig } in
      inr (inl (record { chain = subst (Chain w t) b.is ch; undeclared = b.undeclared; has = subst (Contains object_members) m r.1 }))

  fresh_face : (u d : SigType) → Chain w t u → IsFresh a w u d → IsFace a w t d
  fresh_face u d c f = record {
    up = elim f.above [
      | inl e ↦ subst (Up w t) (sym e) (chain_up w c)
      | inr l ↦ up_trans w (to_interface (chain_up w c) l.listed) l.up
    ];
    is = f.is;
  }

  offered_fills : (d : SigType) → Chain w t d → (x : Offer) → IsOffered a w d x → Contains (wants w face slot) x → IsFilled a w t face slot
  offered_fills d ch x (inl c) h =
      let r = in_some (offers_by w (type_arguments d)) (methods_in a w d) x c in
      elim (Contains-append_cases (own_offers w (type_arguments d) r.0) (overrides_by w (type_arguments d) r.0) x r.2) [
        | inl o ↦ own_fills d ch r.0 r.1 x (is_provider r.0) refl o h
        | inr o ↦ override_fills d (inl ch) r.0 r.1 x o h
      ]
  offered_fills d ch x (inr (inl b)) h =
      let r = in_some (overrides_by w (type_arguments b.face)) (methods_in a w b.face) x b.among in
      override_fills b.face (inr (fresh_face d b.face ch b.fresh)) r.0 r.1 x r.2 h
  offered_fills d ch x (inr (inr b)) h = object_fills d ch x b h

  pub filled_is_offered : IsFilled a w t face slot ↔ IsAnswered a w t face slot
  filled_is_offered = (answered, λ n. offered_fills n.above.at n.above.chain n.want n.above.offered n.among)
