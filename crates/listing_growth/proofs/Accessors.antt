-- Attributes of any owner, properties and events grow.
use Rattle.std.proofs.Common.{◌≡◌, inl, inr, ℕ, zero, suc, ◌+◌, nat_lt, Bool, true, List, [], ◌∷◌, length, slice_get, Option, None, Some, refl, sym, subst, ◌∙◌}
use Rattle.std.proofs.lemmas.Bool.{and_parts, or_cases, eqb-true}
use Rattle.std.specs.List.{list_all, flat_map}
use Rattle.ilasm_grammar.specs.Ilasm.{ilasm, rule_by}
use Rattle.ilasm_grammar.specs.Terminals.{terminal_of}
use Rattle.ilasm_grammar.specs.declared.nonterminals.TheConstants as n
use Rattle.ilasm_grammar.specs.declared.productions.TheConstants as p
use Rattle.ilasm_grammar.specs.declared.symbol.Symbol.TheVariants.{Terminal, Nonterminal}
use Rattle.ilasm_grammar.specs.declared.terminals.TheConstants.{WORDS}
use Rattle.il_lexer.specs.declared.types.TokenKind.TheVariants as kind
use Rattle.il_lexer.specs.declared.word.TheConstants as word
use Rattle.type_terms.specs.declared.name.Scope.TheVariants.{Here}
use Rattle.type_terms.specs.declared.name.TypeId.{TypeId}
use Rattle.type_terms.proofs.Layers.{fold-Name}
use Rattle.assembly_tree.specs.WellFormedMembers.{is_attribute, is_property_accessor, is_event_accessor, is_method, is_property, is_event}
use Rattle.assembly_tree.specs.WellFormedNames.{option_all}
use Rattle.assembly_tree.specs.declared.assembly.Assembly.{Assembly}
use Rattle.assembly_tree.specs.declared.assembly.ExternAssembly.{ExternAssembly}
use Rattle.assembly_tree.specs.declared.members.Accessor.{Accessor}
use Rattle.assembly_tree.specs.declared.members.Attribute.{Attribute}
use Rattle.assembly_tree.specs.declared.members.Event.{Event}
use Rattle.assembly_tree.specs.declared.members.Method.{Method}
use Rattle.assembly_tree.specs.declared.members.Property.{Property}
use Rattle.assembly_tree.proofs.FormedFacts.{properties_named, events_named, methods_named}
use Rattle.listing_model.specs.Grown.{head_of, body_of, Grows}
use Rattle.listing_model.specs.Members.{own_reference, accessor_line, accessor, property, event}
use Rattle.listing_model.specs.References.{method_ref}
use Rattle.listing_model.specs.Shown.{none, Item, item, put, line}
use Rattle.listing_model.specs.Values.{custom, customs}
use Rattle.listing_growth.specs.Held.{is_attribute_held, are_attributes_held, is_method_held, is_property_held, is_event_held, is_signature_held}
use Rattle.listing_growth.specs.Laws.{Stands}
use Rattle.listing_growth.specs.Standing.{owner_stands, type_stands, owner_can_stand, signature_stands, method_stands}
use Rattle.listing_growth.proofs.Flags.{properties_grow}
use Rattle.listing_growth.proofs.Formed.{both, all_both, attribute_may, signature_may, owner_may_stand}
use Rattle.listing_growth.proofs.References.{convention_grows, arguments_grow, method_ref_stands}
use Rattle.listing_growth.proofs.Rows.{EachStands, each_append, each_both, IsRow, star_stands}
use Rattle.listing_growth.proofs.Types.{types_stand, owners_stand}
use Rattle.listing_growth.proofs.Values.{constant_grows, custom_stands}

-- ---- attributes

-- each attribute below a production of its owner's
pub customs_stand : (a : Assembly) {x : ℕ} (production : ℕ) → head_of production ≡ Some x → body_of production ≡ Nonterminal n.CUSTOM ∷ [] →
    (externs : List ExternAssembly) (attributes : List Attribute) → list_all (is_attribute a) attributes ≡ true →
    are_attributes_held attributes ≡ true → EachStands x (customs externs production attributes)
customs_stand a {x = x} production head body externs attributes m h =
    each_both x (λ y. item production (put (custom externs y) none)) (is_attribute a) is_attribute_held
    (λ y k l. let c = custom_stands externs y (attribute_may a y k l) in (head, subst (λ s. Grows s (put (custom externs y) none)) (sym body) (c.0, c.1, tt)))
    attributes m h

-- ---- accessors

-- a method's reference to itself can be written, where its class has a path
pub own_may : (path : List TypeId) (m : Method) → nat_lt 0 (length path) ≡ true → signature_stands m.sig ≡ true →
    method_stands (own_reference path m) ≡ true
unfolding owner_can_stand
own_may path m o h =
    both _ _ (fold-Name Bool Bool owner_stands type_stands (record { scope = Here; path = path }) ∙ o) (both _ _ h refl)

line_stands : {x : ℕ} (production k : ℕ) → head_of production ≡ Some x → body_of production ≡ Terminal (WORDS + k) ∷ Nonterminal n.METHOD_REF ∷ [] →
    terminal_of (kind.Word k) ≡ WORDS + k → (externs : List ExternAssembly) (path : List TypeId) → nat_lt 0 (length path) ≡ true →
    (m : Option Method) → option_all (λ y. signature_stands y.sig) m ≡ true → EachStands x (accessor_line externs production k path m)
line_stands production k head body word externs path o None h = tt
line_stands production k head body word externs path o (Some m) h =
    let r = method_ref_stands externs (own_reference path m) (own_may path m o h) in
    ((head, subst (λ s. Grows s (line k (put (method_ref externs (own_reference path m)) none))) (sym body) (word, (r.0, r.1, tt))), tt)

get_passes : {X : Type 0} (t : X → Bool) (xs : List X) (k : ℕ) → list_all t xs ≡ true → option_all t (slice_get xs k) ≡ true
get_passes t [] k h = refl
get_passes t (x ∷ xs) zero h = (and_parts (t x) (list_all t xs) h).0
get_passes t (x ∷ xs) (suc k) h = get_passes t xs k (and_parts (t x) (list_all t xs) h).1

abbrev pub signatures_stand : List Method → Bool
signatures_stand ms = list_all (λ m. signature_stands m.sig) ms

sig_held : (x : Method) → is_method_held x ≡ true → is_signature_held x.sig ≡ true
unfolding is_method_held
sig_held x h =
    let h7 = and_parts _ _ h in
    let h6 = and_parts _ _ h7.0 in
    let h5 = and_parts _ _ h6.0 in
    let h4 = and_parts _ _ h5.0 in
    let h3 = and_parts _ _ h4.0 in
    (and_parts _ _ h3.0).1

sig_stands : (a : Assembly) (x : Method) → is_method a x ≡ true → is_method_held x ≡ true → signature_stands x.sig ≡ true
sig_stands a x m h = signature_may a x.sig ((methods_named a x).0 m).sig (sig_held x h)

pub methods_sign : (a : Assembly) (ms : List Method) → list_all (is_method a) ms ≡ true → list_all is_method_held ms ≡ true → signatures_stand ms ≡ true
methods_sign a ms m h = all_both (is_method a) is_method_held (λ x. signature_stands x.sig) (sig_stands a) ms m h

abbrev of_kind : ℕ → Accessor → Accessor
of_kind k x = record { kind = k; method = x.method }

each_flat : {X : Type 0} (x : ℕ) (f : X → List Item) (t : X → Bool) → ((y : X) → t y ≡ true → EachStands x (f y)) → (ys : List X) →
    list_all t ys ≡ true → EachStands x (flat_map f ys)
each_flat x f t g [] h = tt
each_flat x f t g (y ∷ ys) h =
    let hs = and_parts (t y) (list_all t ys) h in each_append x (f y) (flat_map f ys) (g y hs.0) (each_flat x f t g ys hs.1)

module _ (externs : List ExternAssembly) (path : List TypeId) (some : nat_lt 0 (length path) ≡ true) (ms : List Method) (sign : signatures_stand ms ≡ true) where
  abbrev of_property : Accessor → Type 0
  of_property x = EachStands n.PROPERTY_ITEM (accessor externs p.PROPERTY_ITEM_OTHER path ms x)

  abbrev of_event : Accessor → Type 0
  of_event x = EachStands n.EVENT_ITEM (accessor externs p.EVENT_ITEM_OTHER path ms x)

  sets : (x : Accessor) → of_property (of_kind 1 x)
  unfolding ilasm rule_by
  sets x = line_stands p.PROPERTY_ITEM_SET word.DOT_SET refl refl refl externs path some (slice_get ms x.method) (get_passes _ ms x.method sign)

  gets : (x : Accessor) → of_property (of_kind 2 x)
  unfolding ilasm rule_by
  gets x = line_stands p.PROPERTY_ITEM_GET word.DOT_GET refl refl refl externs path some (slice_get ms x.method) (get_passes _ ms x.method sign)

  others : (x : Accessor) → of_property (of_kind 4 x)
  unfolding ilasm rule_by
  others x = line_stands p.PROPERTY_ITEM_OTHER word.DOT_OTHER refl refl refl externs path some (slice_get ms x.method) (get_passes _ ms x.method sign)

  adds : (x : Accessor) → of_event (of_kind 8 x)
  unfolding ilasm rule_by
  adds x = line_stands p.EVENT_ITEM_ADDON word.DOT_ADDON refl refl refl externs path some (slice_get ms x.method) (get_passes _ ms x.method sign)

  removes : (x : Accessor) → of_event (of_kind 0x10 x)
  unfolding ilasm rule_by
  removes x = line_stands p.EVENT_ITEM_REMOVEON word.DOT_REMOVEON refl refl refl externs path some (slice_get ms x.method) (get_passes _ ms x.method sign)

  fires : (x : Accessor) → of_event (of_kind 0x20 x)
  unfolding ilasm rule_by
  fires x = line_stands p.EVENT_ITEM_FIRE word.DOT_FIRE refl refl refl externs path some (slice_get ms x.method) (get_passes _ ms x.method sign)

  more : (x : Accessor) → of_event (of_kind 4 x)
  unfolding ilasm rule_by
  more x = line_stands p.EVENT_ITEM_OTHER word.DOT_OTHER refl refl refl externs path some (slice_get ms x.method) (get_passes _ ms x.method sign)

  property_accessor : (x : Accessor) → is_property_accessor x ≡ true → of_property x
  property_accessor x h = elim (or_cases _ _ h) [
    | inl two ↦ elim (or_cases _ _ two) [
      | inl e ↦ subst (λ k. of_property (of_kind k x)) (sym (eqb-true x.kind 1 e)) (sets x)
      | inr e ↦ subst (λ k. of_property (of_kind k x)) (sym (eqb-true x.kind 2 e)) (gets x)
    ]
    | inr e ↦ subst (λ k. of_property (of_kind k x)) (sym (eqb-true x.kind 4 e)) (others x)
  ]

  event_accessor : (x : Accessor) → is_event_accessor x ≡ true → of_event x
  event_accessor x h = elim (or_cases _ _ h) [
    | inl three ↦ elim (or_cases _ _ three) [
      | inl two ↦ elim (or_cases _ _ two) [
        | inl e ↦ subst (λ k. of_event (of_kind k x)) (sym (eqb-true x.kind 4 e)) (more x)
        | inr e ↦ subst (λ k. of_event (of_kind k x)) (sym (eqb-true x.kind 8 e)) (adds x)
      ]
      | inr e ↦ subst (λ k. of_event (of_kind k x)) (sym (eqb-true x.kind 0x10 e)) (removes x)
    ]
    | inr e ↦ subst (λ k. of_event (of_kind k x)) (sym (eqb-true x.kind 0x20 e)) (fires x)
  ]

  -- ---- properties and events

  property_row : IsRow n.PROPERTY_ITEM_STAR n.PROPERTY_ITEM p.PROPERTY_ITEM_STAR_MORE p.PROPERTY_ITEM_STAR_END
  unfolding ilasm rule_by
  property_row = record { more_head = refl; more_body = refl; end_head = refl; end_body = refl }

  event_row : IsRow n.EVENT_ITEM_STAR n.EVENT_ITEM p.EVENT_ITEM_STAR_MORE p.EVENT_ITEM_STAR_END
  unfolding ilasm rule_by
  event_row = record { more_head = refl; more_body = refl; end_head = refl; end_body = refl }

  property_customs : (a : Assembly) (xs : List Attribute) → list_all (is_attribute a) xs ≡ true → are_attributes_held xs ≡ true →
      EachStands n.PROPERTY_ITEM (customs externs p.PROPERTY_ITEM_CUSTOM xs)
  unfolding ilasm rule_by
  property_customs a xs = customs_stand a p.PROPERTY_ITEM_CUSTOM refl refl externs xs

  event_customs : (a : Assembly) (xs : List Attribute) → list_all (is_attribute a) xs ≡ true → are_attributes_held xs ≡ true →
      EachStands n.EVENT_ITEM (customs externs p.EVENT_ITEM_CUSTOM xs)
  unfolding ilasm rule_by
  event_customs a xs = customs_stand a p.EVENT_ITEM_CUSTOM refl refl externs xs

  pub property_stands : (a : Assembly) (x : Property) → is_property a x ≡ true → is_property_held x ≡ true → Stands n.PROPERTY (property externs path ms x)
  unfolding ilasm rule_by property is_property_held
  property_stands a x m h =
      let f = (properties_named a x).0 m in
      let hs = and_parts _ _ h in
      let sign_held = (and_parts _ _ (and_parts _ _ hs.0).0).1 in
      let sign = and_parts _ _ (signature_may a x.sig f.sig sign_held) in
      let flags = properties_grow x.flags in
      let how = convention_grows x.sig [] none tt in
      let ret = types_stand externs x.sig.ret sign.0 in
      let args = arguments_grow externs x.sig sign.1 [] none tt in
      let value = constant_grows x.constant [] none tt in
      let items =
      star_stands property_row _ (each_append n.PROPERTY_ITEM _ _
      (each_flat n.PROPERTY_ITEM (accessor externs p.PROPERTY_ITEM_OTHER path ms) is_property_accessor property_accessor x.accessors f.accessors)
      (property_customs a x.attributes f.attributes hs.1)) in
      (refl, (refl, (flags.0, flags.1, (how.0, how.1, (ret.0, ret.1, (refl, (args.0, args.1, (value.0, value.1, (refl, (items.0, items.1, (refl, tt)))))))))))

  pub event_stands : (a : Assembly) (x : Event) → is_event a x ≡ true → is_event_held x ≡ true → Stands n.EVENT (event externs path ms x)
  unfolding ilasm rule_by event is_event_held
  event_stands a x m h =
      let f = (events_named a x).0 m in
      let hs = and_parts _ _ h in
      let flags = properties_grow x.flags in
      let of = owners_stand externs x.of (owner_may_stand a x.of f.of (and_parts _ _ hs.0).1) in
      let items =
      star_stands event_row _ (each_append n.EVENT_ITEM _ _
      (each_flat n.EVENT_ITEM (accessor externs p.EVENT_ITEM_OTHER path ms) is_event_accessor event_accessor x.accessors f.accessors)
      (event_customs a x.attributes f.attributes hs.1)) in
      (refl, (refl, (flags.0, flags.1, (of.0, of.1, (refl, (refl, (items.0, items.1, (refl, tt))))))))
