-- Generic parameters, fields, properties and events are sound.
use Rattle.std.proofs.Common.{◌≡◌, inl, inr, ℕ, zero, suc, ◌+◌, ◌^◌, ◌<◌, ◌≤◌, nat_eq, Bool, true, false, cond, List, [], ◌∷◌, ◌++◌, map, length, slice_get, Option, None, Some, refl, sym, subst, append_assoc, arith}
use Rattle.std.proofs.lemmas.Bool.{and_parts, or_cases, eqb-true}
use Rattle.std.specs.List.{list_all, flat_map}
use Rattle.std.specs.Prelude.{option_map}
use Rattle.il_lexer.specs.declared.types.TokenKind.TheVariants as kind
use Rattle.il_lexer.specs.declared.word.TheConstants as word
use Rattle.ilasm_grammar.specs.declared.nonterminals.TheConstants as n
use Rattle.ilasm_grammar.specs.declared.productions.TheConstants as p
use Rattle.type_terms.specs.declared.name.Scope.TheVariants.{Here}
use Rattle.type_terms.specs.declared.name.TypeId.{TypeId}
use Rattle.type_terms.specs.declared.term.Owner.{Owner, out-Owner}
use Rattle.type_terms.specs.declared.term.Owner.TheVariants as owner_form
use Rattle.assembly_tree.specs.WellFormed.{is_extern}
use Rattle.assembly_tree.specs.WellFormedMembers.{is_generic, is_field, is_method, is_property_accessor, is_event_accessor, is_property, is_event}
use Rattle.assembly_tree.specs.WellFormedNames.{option_all, is_type_id}
use Rattle.assembly_tree.specs.WellFormedTerms as formed
use Rattle.assembly_tree.specs.declared.assembly.Assembly.{Assembly}
use Rattle.assembly_tree.specs.declared.members.Accessor.{Accessor}
use Rattle.assembly_tree.specs.declared.members.Event.{Event}
use Rattle.assembly_tree.specs.declared.members.Field.{Field}
use Rattle.assembly_tree.specs.declared.members.Generic.{Generic}
use Rattle.assembly_tree.specs.declared.members.Method.{Method}
use Rattle.assembly_tree.specs.declared.members.Property.{Property}
use Rattle.assembly_tree.proofs.FormedFacts.{fields_named, methods_named, properties_named, events_named}
use Rattle.listing_growth.specs.Held.{is_u32, is_owner_held, is_signature_held, is_generic_held, is_field_held, is_method_held, is_property_held, is_event_held}
use Rattle.listing_leaves.specs.Laws.{is_name}
use Rattle.listing_leaves.specs.Numbers.{data_label}
use Rattle.listing_model.specs.Flags.{flag_items, typar_words, field_words, property_words}
use Rattle.listing_model.specs.Members.{number_in_brackets, specs, bounds, typar, typars, typars_opt, typar_line, typar_lines, field, field_items, fields, behind_field, field_contents, own_reference, accessor_line, accessor, property, event, contents_then}
use Rattle.listing_model.specs.References.{method_ref}
use Rattle.listing_model.specs.Shown.{Leaf, Shown, none, leaves, Item, put, w, token, branch, opt_below, star, behind_comma}
use Rattle.listing_model.specs.Types.{owner}
use Rattle.listing_model.specs.Values.{customs}
use Rattle.listing_tokens.proofs.Sound.{passes, has_room, room_behind, Sound, opens, closes_name, wf, tf, wider, SoundItem, EachSound, each_wider, sounds_append, star_sound, commas_sound}
use Rattle.listing_tokens.proofs.References.{convention_sound, arguments_sound, type_in, SigSound, signature_sound, method_sound, OwnerKnown}
use Rattle.listing_tokens.proofs.Terms.{LeafLaws, owner_sound, type_sound}
use Rattle.listing_tokens.proofs.Values.{u16_small, u32_small, row_sound, value_sound, customs_sound}

-- ---- numbers in brackets

pub bracketed : (laws : LeafLaws) (r k : ℕ) → k < 2 ^ 128 → (after : Shown) (rest : List Leaf) → Sound (suc r) after rest → Sound (suc r) (number_in_brackets k after) rest
bracketed laws r k small after rest h = (wf refl refl, (tf (laws.numbers.natural k small) refl refl, (wf refl refl, h)))

-- ---- lists of owners

module _ (laws : LeafLaws) (a : Assembly) (named_well : list_all is_extern a.externs ≡ true) (few : length a.externs < 2 ^ 128) where
  pub each_owner : (os : List Owner) → list_all (formed.is_owner a) os ≡ true → list_all is_owner_held os ≡ true → EachSound 100 (map (owner a.externs) os)
  each_owner [] m h = tt
  each_owner (o ∷ os) m h =
      let ms = and_parts (formed.is_owner a o) (list_all (formed.is_owner a) os) m in
      let hs = and_parts (is_owner_held o) (list_all is_owner_held os) h in
      ((owner_sound laws a named_well few o ms.0 hs.0).sound, each_owner os ms.1 hs.1)

  pub specs_sound : (r : ℕ) → 100 ≤ r → (o : Owner) (os : List Owner) → list_all (formed.is_owner a) (o ∷ os) ≡ true → list_all is_owner_held (o ∷ os) ≡ true →
      (after : Shown) (rest : List Leaf) → Sound r after rest → Sound r (specs a.externs (o ∷ os) after) rest
  specs_sound r le o os m h after rest k =
      commas_sound r p.COMMA_SPEC_STAR_MORE p.COMMA_SPEC_STAR_END p.COMMA_SPEC (owner a.externs o) (map (owner a.externs) os)
      (each_wider 100 r le (owner a.externs o ∷ map (owner a.externs) os) (each_owner (o ∷ os) m h)) after rest k

  -- ---- generic parameters

  -- the owner behind `(` is followed by `,` or `)`
  behind_owner : (is : List Item) (rest : List Leaf) →
      closes_name (leaves (star p.COMMA_SPEC_STAR_MORE p.COMMA_SPEC_STAR_END (map (behind_comma p.COMMA_SPEC) is) (w word.CLOSE_PAREN none)) ++ rest) ≡ true
  behind_owner [] rest = refl
  behind_owner (i ∷ is) rest = refl

  bounds_sound : (os : List Owner) → list_all (formed.is_owner a) os ≡ true → list_all is_owner_held os ≡ true → (rest : List Leaf) →
      Sound 101 (opt_below (bounds a.externs os)) rest
  bounds_sound [] m h rest = tt
  bounds_sound (o ∷ os) m h rest =
      let ms = and_parts (formed.is_owner a o) (list_all (formed.is_owner a) os) m in
      let hs = and_parts (is_owner_held o) (list_all is_owner_held os) h in
      let first = owner_sound laws a named_well few o ms.0 hs.0 in
      let more = star p.COMMA_SPEC_STAR_MORE p.COMMA_SPEC_STAR_END (map (behind_comma p.COMMA_SPEC) (map (owner a.externs) os)) (w word.CLOSE_PAREN none) in
      let opened =
      subst (λ ls. opens ls ≡ true) (sym (append_assoc (leaves (owner a.externs o).below) (leaves more) rest))
      (first.opens (leaves more ++ rest) (behind_owner (map (owner a.externs) os) rest)) in
      ((wf opened refl, specs_sound 100 (omega arith) o os m h (w word.CLOSE_PAREN none) _ (wf refl refl, tt)), tt)

  typar_sound : (g : Generic) → is_generic a g ≡ true → is_generic_held g ≡ true → SoundItem 101 (typar a.externs g)
  unfolding is_generic is_generic_held
  typar_sound g m h rest =
      let ms = and_parts _ _ (and_parts _ _ m).0 in
      let hs = and_parts _ _ (and_parts _ _ h).0 in (
        star_sound 101 p.TYPAR_ATTR_STAR_MORE p.TYPAR_ATTR_STAR_END (flag_items n.TYPAR_ATTR p.TYPAR_ATTR_FLAGS typar_words g.flags)
            (row_sound laws 100 n.TYPAR_ATTR p.TYPAR_ATTR_FLAGS typar_words refl g.flags (u16_small g.flags hs.0)) _,
        (bounds_sound g.bounds ms.1 hs.1 _, (tf (laws.names.name g.name ms.0) refl refl, tt)),
      )

  each_typar : (gs : List Generic) → list_all (is_generic a) gs ≡ true → list_all is_generic_held gs ≡ true → EachSound 101 (map (typar a.externs) gs)
  each_typar [] m h = tt
  each_typar (g ∷ gs) m h =
      let ms = and_parts (is_generic a g) (list_all (is_generic a) gs) m in
      let hs = and_parts (is_generic_held g) (list_all is_generic_held gs) h in
      (typar_sound g ms.0 hs.0, each_typar gs ms.1 hs.1)

  angles_sound : (r : ℕ) → 101 ≤ r → (gs : List Generic) → list_all (is_generic a) gs ≡ true → list_all is_generic_held gs ≡ true → (rest : List Leaf) →
      Sound (suc r) (opt_below (typars a.externs gs)) rest
  angles_sound r le [] m h rest = tt
  angles_sound r le (g ∷ gs) m h rest = (
    (
      wf refl refl,
      commas_sound r p.COMMA_TYPAR_STAR_MORE p.COMMA_TYPAR_STAR_END p.COMMA_TYPAR (typar a.externs g) (map (typar a.externs) gs)
          (each_wider 101 r le (typar a.externs g ∷ map (typar a.externs) gs) (each_typar (g ∷ gs) m h)) (w word.GREATER none) _ (wf refl refl, tt),
    ),
    tt,
  )

  pub typars_sound : (r : ℕ) → 101 ≤ r → (gs : List Generic) → list_all (is_generic a) gs ≡ true → list_all is_generic_held gs ≡ true →
      (after : Shown) (rest : List Leaf) → Sound (suc r) after rest → Sound (suc r) (typars_opt a.externs gs after) rest
  typars_sound r le gs m h after rest k = (angles_sound r le gs m h _, k)

  typar_line_by : (b : Bool) (head : Item) (rest : List Item) → SoundItem 101 head → EachSound 101 rest → EachSound 101 (cond b [] (head ∷ rest))
  typar_line_by true head rest h k = tt
  typar_line_by false head rest h k = (h, k)

  typar_line_sound : (head : ℕ → Item) (production : ℕ) (k : ℕ) (g : Generic) → SoundItem 101 (head k) → is_generic a g ≡ true → is_generic_held g ≡ true →
      EachSound 101 (typar_line a.externs head production k g)
  unfolding is_generic is_generic_held
  typar_line_sound head production k g s m h =
      typar_line_by (nat_eq (length g.attributes) 0) (head k) (customs a.externs production g.attributes) s
      (customs_sound laws a named_well few production g.attributes (and_parts _ _ m).1 (and_parts _ _ h).1)

  -- lines of generic parameters with attributes, from a number on
  pub typar_lines_sound : (head : ℕ → Item) (production : ℕ) → ((k : ℕ) → k < 2 ^ 128 → SoundItem 101 (head k)) → (k : ℕ) (gs : List Generic) →
      k + length gs < 2 ^ 128 → list_all (is_generic a) gs ≡ true → list_all is_generic_held gs ≡ true → EachSound 101 (typar_lines a.externs head production k gs)
  typar_lines_sound head production heads k [] small m h = tt
  typar_lines_sound head production heads k (g ∷ gs) small m h =
      let ms = and_parts (is_generic a g) (list_all (is_generic a) gs) m in
      let hs = and_parts (is_generic_held g) (list_all is_generic_held gs) h in
      let here : k < 2 ^ 128 = omega arith in
      let more : suc k + length gs < 2 ^ 128 = omega arith in
      sounds_append 101 (typar_line a.externs head production k g) (typar_lines a.externs head production (suc k) gs)
      (typar_line_sound head production k g (heads k here) ms.0 hs.0) (typar_lines_sound head production heads (suc k) gs more ms.1 hs.1)

  -- ---- fields

  offset_sound : (r : ℕ) (k : Option ℕ) → option_all is_u32 k ≡ true → (rest : List Leaf) →
      Sound (suc r) (opt_below (option_map (λ k. branch p.BRACKETED_INT (number_in_brackets k none) none) k)) rest
  offset_sound r None h rest = tt
  offset_sound r (Some k) h rest = (bracketed laws r k (u32_small k h) none _ tt, tt)

  at_sound : (r k : ℕ) (content : Option (List ℕ)) → k + length (contents_then content []) < 2 ^ 128 → (rest : List Leaf) →
      Sound r (opt_below (option_map (λ bytes. branch p.AT_NAME (w word.AT (token kind.Name (data_label k) none)) none) content)) rest
  at_sound r k None small rest = tt
  at_sound r k (Some bytes) small rest = let low : k < 2 ^ 128 = omega arith in ((wf refl refl, (tf (laws.numbers.data_label k low) refl refl, tt)), tt)

  pub field_sound : (k : ℕ) (f : Field) → k + length (contents_then f.content []) < 2 ^ 128 → is_field a f ≡ true → is_field_held f ≡ true →
      SoundItem 101 (field a.externs k f)
  unfolding field is_field_held
  field_sound k f small m h rest =
      let fm = (fields_named a f).0 m in
      let h5 = and_parts _ _ h in
      let h4 = and_parts _ _ h5.0 in
      let h3 = and_parts _ _ h4.0 in
      let h2 = and_parts _ _ h3.0 in
      let h1 = and_parts _ _ h2.0 in (
        wf refl refl,
        (
          offset_sound 100 f.offset h3.1 _,
          (
            star_sound 101 p.FIELD_ATTR_STAR_MORE p.FIELD_ATTR_STAR_END (flag_items n.FIELD_ATTR p.FIELD_ATTR_FLAGS field_words f.flags)
                (row_sound laws 100 n.FIELD_ATTR p.FIELD_ATTR_FLAGS field_words refl f.flags (u16_small f.flags h1.0)) _,
            (
              type_in laws a named_well few 101 (omega arith) f.of (type_sound laws a named_well few f.of fm.of h1.1) _,
              (tf (laws.names.name f.name fm.name) refl refl, (value_sound laws 100 f.constant fm.constant h2.1 _, (at_sound 101 k f.content small _, tt))),
            ),
          ),
        ),
      )

  counted : (content : Option (List ℕ)) (fs : List Field) → length (contents_then content (field_contents fs)) ≡ length (contents_then content []) + length (field_contents fs)
  counted None fs = omega arith
  counted (Some bytes) fs = omega arith

  behind_is : (k : ℕ) (content : Option (List ℕ)) → behind_field k content ≡ k + length (contents_then content [])
  behind_is k None = omega arith
  behind_is k (Some bytes) = omega arith

  field_with : (production custom_production k : ℕ) (f : Field) → k + length (contents_then f.content []) < 2 ^ 128 → is_field a f ≡ true → is_field_held f ≡ true →
      EachSound 101 (field_items a.externs production custom_production k f)
  unfolding is_field_held
  field_with production custom_production k f low m h =
      ((λ rest. (field_sound k f low m h _, tt)), customs_sound laws a named_well few custom_production f.attributes ((fields_named a f).0 m).attributes (and_parts _ _ h).1)

  pub fields_sound : (production custom_production k : ℕ) (fs : List Field) → k + length (field_contents fs) < 2 ^ 128 → list_all (is_field a) fs ≡ true →
      list_all is_field_held fs ≡ true → EachSound 101 (fields a.externs production custom_production k fs)
  fields_sound production custom_production k [] small m h = tt
  fields_sound production custom_production k (f ∷ fs) small m h =
      let ms = and_parts (is_field a f) (list_all (is_field a) fs) m in
      let hs = and_parts (is_field_held f) (list_all is_field_held fs) h in
      let count = counted f.content fs in
      let there = behind_is k f.content in
      let here : k + length (contents_then f.content []) < 2 ^ 128 = omega arith in
      let more : behind_field k f.content + length (field_contents fs) < 2 ^ 128 = omega arith in
      sounds_append 101 (field_items a.externs production custom_production k f) (fields a.externs production custom_production (behind_field k f.content) fs)
      (field_with production custom_production k f here ms.0 hs.0) (fields_sound production custom_production (behind_field k f.content) fs more ms.1 hs.1)

  -- ---- accessors

  -- a method by what its reference needs
  pub record Signs (m : Method) : Type 0 where
    pub called : is_name m.name ≡ true
    pub sig : SigSound laws a named_well few m.sig

  abbrev pub AllSign : List Method → Type 0
  AllSign [] = Unit {0}
  AllSign (m ∷ ms) = Signs m × AllSign ms

  sig_held : (x : Method) → is_method_held x ≡ true → is_signature_held x.sig ≡ true
  unfolding is_method_held
  sig_held x h =
      let h7 = and_parts _ _ h in
      let h6 = and_parts _ _ h7.0 in
      let h5 = and_parts _ _ h6.0 in
      let h4 = and_parts _ _ h5.0 in
      let h3 = and_parts _ _ h4.0 in
      (and_parts _ _ h3.0).1

  pub methods_sign : (ms : List Method) → list_all (is_method a) ms ≡ true → list_all is_method_held ms ≡ true → AllSign ms
  methods_sign [] m h = tt
  methods_sign (x ∷ xs) m h =
      let ks = and_parts (is_method a x) (list_all (is_method a) xs) m in
      let hs = and_parts (is_method_held x) (list_all is_method_held xs) h in
      let f = (methods_named a x).0 ks.0 in
      (record { called = f.name; sig = signature_sound laws a named_well few x.sig f.sig (sig_held x hs.0) }, methods_sign xs ks.1 hs.1)

  abbrev SignsIf : Option Method → Type 0
  SignsIf None = Unit {0}
  SignsIf (Some m) = Signs m

  get_sign : (ms : List Method) (k : ℕ) → AllSign ms → SignsIf (slice_get ms k)
  get_sign [] k h = tt
  get_sign (m ∷ ms) zero h = h.0
  get_sign (m ∷ ms) (suc k) h = get_sign ms k h.1

  module _ (path : List TypeId) (ids : list_all is_type_id path ≡ true) (ms : List Method) (sign : AllSign ms) where
    own_known : OwnerKnown laws a named_well few (out-Owner (owner_form.Name (record { scope = Here; path = path })))
    own_known = subst (OwnerKnown laws a named_well few) (sym (owner_form.outs-Name (record { scope = Here; path = path }))) (refl, ids)

    line_sound : (production k : ℕ) → ((ls : List Leaf) → passes (kind.Word k) ls ≡ true) →
        ((r : ℕ) → has_room (kind.Word k) r ≡ true) → ((r : ℕ) → room_behind (kind.Word k) r ≡ r) →
        (m : Option Method) → SignsIf m → EachSound 101 (accessor_line a.externs production k path m)
    line_sound production k ends room same None s = tt
    line_sound production k ends room same (Some m) s = (
      (λ rest. (
        wf (ends (leaves (put (method_ref a.externs (own_reference path m)) none) ++ rest)) (room 101),
        subst (λ r. Sound r (put (method_ref a.externs (own_reference path m)) none) rest) (sym (same 101))
            (method_sound laws a named_well few (own_reference path m) own_known (record { called = s.called; sig = s.sig; args = refl; args_held = refl }) _, tt),
      )),
      tt,
    )

    abbrev of_kind : ℕ → Accessor → Accessor
    of_kind k x = record { kind = k; method = x.method }

    abbrev of_any : ℕ → Accessor → Type 0
    of_any other x = EachSound 101 (accessor a.externs other path ms x)

    property_accessor : (other : ℕ) (x : Accessor) → is_property_accessor x ≡ true → of_any other x
    property_accessor other x h = elim (or_cases _ _ h) [
      | inl two ↦ elim (or_cases _ _ two) [
        | inl e ↦ subst (λ k. of_any other (of_kind k x)) (sym (eqb-true x.kind 1 e)) (line_sound p.PROPERTY_ITEM_SET word.DOT_SET (λ ls. refl) (λ r. refl) (λ r. refl) (slice_get ms x.method) (get_sign ms x.method sign))
        | inr e ↦ subst (λ k. of_any other (of_kind k x)) (sym (eqb-true x.kind 2 e)) (line_sound p.PROPERTY_ITEM_GET word.DOT_GET (λ ls. refl) (λ r. refl) (λ r. refl) (slice_get ms x.method) (get_sign ms x.method sign))
      ]
      | inr e ↦ subst (λ k. of_any other (of_kind k x)) (sym (eqb-true x.kind 4 e)) (line_sound other word.DOT_OTHER (λ ls. refl) (λ r. refl) (λ r. refl) (slice_get ms x.method) (get_sign ms x.method sign))
    ]

    event_accessor : (other : ℕ) (x : Accessor) → is_event_accessor x ≡ true → of_any other x
    event_accessor other x h = elim (or_cases _ _ h) [
      | inl three ↦ elim (or_cases _ _ three) [
        | inl two ↦ elim (or_cases _ _ two) [
          | inl e ↦ subst (λ k. of_any other (of_kind k x)) (sym (eqb-true x.kind 4 e)) (line_sound other word.DOT_OTHER (λ ls. refl) (λ r. refl) (λ r. refl) (slice_get ms x.method) (get_sign ms x.method sign))
          | inr e ↦ subst (λ k. of_any other (of_kind k x)) (sym (eqb-true x.kind 8 e)) (line_sound p.EVENT_ITEM_ADDON word.DOT_ADDON (λ ls. refl) (λ r. refl) (λ r. refl) (slice_get ms x.method) (get_sign ms x.method sign))
        ]
        | inr e ↦ subst (λ k. of_any other (of_kind k x)) (sym (eqb-true x.kind 0x10 e)) (line_sound p.EVENT_ITEM_REMOVEON word.DOT_REMOVEON (λ ls. refl) (λ r. refl) (λ r. refl) (slice_get ms x.method) (get_sign ms x.method sign))
      ]
      | inr e ↦ subst (λ k. of_any other (of_kind k x)) (sym (eqb-true x.kind 0x20 e)) (line_sound p.EVENT_ITEM_FIRE word.DOT_FIRE (λ ls. refl) (λ r. refl) (λ r. refl) (slice_get ms x.method) (get_sign ms x.method sign))
    ]

    each_flat : (f : Accessor → List Item) (t : Accessor → Bool) → ((x : Accessor) → t x ≡ true → EachSound 101 (f x)) → (xs : List Accessor) →
        list_all t xs ≡ true → EachSound 101 (flat_map f xs)
    each_flat f t g [] h = tt
    each_flat f t g (x ∷ xs) h = let hs = and_parts (t x) (list_all t xs) h in sounds_append 101 (f x) (flat_map f xs) (g x hs.0) (each_flat f t g xs hs.1)

    -- ---- properties and events

    property_flags : (r k : ℕ) → k < 2 ^ 128 → EachSound (suc r) (flag_items n.PROPERTY_ATTR p.PROPERTY_ATTR_FLAGS property_words k)
    property_flags r k small = row_sound laws r n.PROPERTY_ATTR p.PROPERTY_ATTR_FLAGS property_words refl k small

    pub property_sound : (x : Property) → is_property a x ≡ true → is_property_held x ≡ true → SoundItem 102 (property a.externs path ms x)
    unfolding property is_property_held
    property_sound x m h rest =
        let f = (properties_named a x).0 m in
        let h3 = and_parts _ _ h in
        let h2 = and_parts _ _ h3.0 in
        let h1 = and_parts _ _ h2.0 in
        let sig = signature_sound laws a named_well few x.sig f.sig h1.1 in
        let items =
        sounds_append 101 (flat_map (accessor a.externs p.PROPERTY_ITEM_OTHER path ms) x.accessors) (customs a.externs p.PROPERTY_ITEM_CUSTOM x.attributes)
        (each_flat (accessor a.externs p.PROPERTY_ITEM_OTHER path ms) is_property_accessor (property_accessor p.PROPERTY_ITEM_OTHER) x.accessors f.accessors)
        (customs_sound laws a named_well few p.PROPERTY_ITEM_CUSTOM x.attributes f.attributes h3.1) in (
          wf refl refl,
          (
            star_sound 102 p.PROPERTY_ATTR_STAR_MORE p.PROPERTY_ATTR_STAR_END _ (property_flags 101 x.flags (u16_small x.flags h1.0)) _,
            (
              (convention_sound 102 x.sig none _ tt).0,
              (
                type_in laws a named_well few 102 (omega arith) x.sig.ret sig.ret _,
                (
                  tf (laws.names.name x.name f.name) refl refl,
                  (
                    (arguments_sound laws a named_well few 101 (omega arith) x.sig sig none _ tt).0,
                    (
                      value_sound laws 101 x.constant f.constant h2.1 _,
                      (wf refl refl, (star_sound 101 p.PROPERTY_ITEM_STAR_MORE p.PROPERTY_ITEM_STAR_END _ items _, (wf refl refl, tt))),
                    ),
                  ),
                ),
              ),
            ),
          ),
        )

    pub event_sound : (x : Event) → is_event a x ≡ true → is_event_held x ≡ true → SoundItem 102 (event a.externs path ms x)
    unfolding event is_event_held
    event_sound x m h rest =
        let f = (events_named a x).0 m in
        let h2 = and_parts _ _ h in
        let h1 = and_parts _ _ h2.0 in
        let of = owner_sound laws a named_well few x.of f.of h1.1 in
        let items =
        sounds_append 101 (flat_map (accessor a.externs p.EVENT_ITEM_OTHER path ms) x.accessors) (customs a.externs p.EVENT_ITEM_CUSTOM x.attributes)
        (each_flat (accessor a.externs p.EVENT_ITEM_OTHER path ms) is_event_accessor (event_accessor p.EVENT_ITEM_OTHER) x.accessors f.accessors)
        (customs_sound laws a named_well few p.EVENT_ITEM_CUSTOM x.attributes f.attributes h2.1) in (
          wf refl refl,
          (
            star_sound 102 p.PROPERTY_ATTR_STAR_MORE p.PROPERTY_ATTR_STAR_END _ (property_flags 101 x.flags (u16_small x.flags h1.0)) _,
            (
              wider 100 102 (omega arith) (owner a.externs x.of).below _ (of.sound _),
              (
                tf (laws.names.name x.name f.name) refl refl,
                (wf refl refl, (star_sound 101 p.EVENT_ITEM_STAR_MORE p.EVENT_ITEM_STAR_END _ items _, (wf refl refl, tt))),
              ),
            ),
          ),
        )
