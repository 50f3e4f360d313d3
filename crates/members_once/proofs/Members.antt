-- Members that differ aren't declared twice.
use Rattle.std.proofs.Common.{◌≡◌, ℕ, ◌&&◌, Bool, true, false, cond, List, [], ◌∷◌, map, filter, take_while, refl, ap, ◌∙◌, sym, bytes_eq}
use Rattle.std.specs.Cmp.{IsTotalOrder}
use Rattle.type_terms.specs.Order.{term_order}
use Rattle.type_terms.specs.declared.reference.MethodSig.{MethodSig}
use Rattle.type_terms.specs.declared.term.SigType.{SigType}
use Rattle.assembly_tree.specs.WellFormedMembers as formed
use Rattle.assembly_tree.specs.WellFormedMembers.{is_same_text, is_same_type, is_same_signature}
use Rattle.assembly_tree.specs.WellFormedNames.{all_differ}
use Rattle.ilasm_grammar.specs.declared.productions.TheConstants.{FIELD, TYPE}
use Rattle.source_model.specs.DeclaredTwice.{repeats, is_same_field, field_forests, fields_twice, method_token, signature_of, is_same_method, methods_twice, is_same_property, properties_twice, is_same_event, events_twice}
use Rattle.source_model.specs.Forest.{Forest, Part, child, the}
use Rattle.source_model.specs.Items.{Run, is_custom, runs}
use Rattle.source_model.specs.Members.{field, field_token, fields, is_field_part, method, method_forests, methods, property, property_token, properties_in, properties, event, events_in, events}
use Rattle.source_model.specs.Nodes.{Around}
use Rattle.source_model.specs.References.{method_name, property_signature}
use Rattle.source_model.specs.Signatures.{is_field_unbroken, is_method_unbroken, is_property_unbroken}
use Rattle.source_model.specs.Source.{Source}
use Rattle.source_model.specs.Types.{type_of}
use Rattle.source_model.specs.Values.{name_text}
use Rattle.members_once.specs.Laws.{MembersAreOnce}
use Rattle.members_once.proofs.Repeats.{no_repeats, differ_mapped, differ_some, text_turned}
use Rattle.members_once.proofs.Turned.{type_turned, signature_turned}

-- those of a list whose items differ aren't repeated, whichever way they are asked
none_again : {X : Type 0} (same test : X → X → Bool) → ((x y : X) → same y x ≡ test x y) → (pass : X → Bool) (xs : List X) → all_differ test xs ≡ true → repeats same (filter pass xs) ≡ []
none_again {X = X} same test turned pass xs h =
    no_repeats same (filter pass xs) (ap (λ (t : X → X → Bool). all_differ t (filter pass xs)) (λ i x y. turned x y i) ∙ differ_some test pass xs h)

none_at_all : {X : Type 0} (same test : X → X → Bool) → ((x y : X) → same y x ≡ test x y) → (xs : List X) → all_differ test xs ≡ true → repeats same xs ≡ []
none_at_all {X = X} same test turned xs h = no_repeats same xs (ap (λ (t : X → X → Bool). all_differ t xs) (λ i x y. turned x y i) ∙ h)

module _ (total : IsTotalOrder term_order) (s : Source) (a : Around) where
  -- a text and a type, a text and a signature
  typed_turned : (t u : List ℕ) (x y : SigType) → (bytes_eq u t && is_same_type y x) ≡ (is_same_text t u && is_same_type x y)
  typed_turned t u x y i = text_turned u t i && type_turned total y x i

  signed_turned : (t u : List ℕ) (x y : MethodSig) → (bytes_eq u t && is_same_signature y x) ≡ (is_same_text t u && is_same_signature x y)
  signed_turned t u x y i = text_turned u t i && signature_turned total y x i

  -- ---- fields

  abbrev field_test : Forest → Forest → Bool
  field_test f g = is_same_text (name_text s (field_token f)) (name_text s (field_token g)) && is_same_type (type_of s a (child (TYPE ∷ []) f)) (type_of s a (child (TYPE ∷ []) g))

  field_turned : (f g : Forest) → is_same_field s a g f ≡ field_test f g
  field_turned f g = typed_turned (name_text s (field_token f)) (name_text s (field_token g)) (type_of s a (child (TYPE ∷ []) f)) (type_of s a (child (TYPE ∷ []) g))

  heads : (ps : List Part) → map (λ (r : Run). the FIELD r.head.below) (filter (λ r. is_field_part r.head) (runs ps)) ≡ field_forests ps
  heads [] = refl
  heads (p ∷ ps) = go (is_field_part p) (heads ps)
    where
      go : (c : Bool) → map (λ (r : Run). the FIELD r.head.below) (filter (λ r. is_field_part r.head) (runs ps)) ≡ field_forests ps
          → map (λ (r : Run). the FIELD r.head.below) (cond c (record { head = p; customs = take_while is_custom ps } ∷ filter (λ r. is_field_part r.head) (runs ps)) (filter (λ r. is_field_part r.head) (runs ps)))
          ≡ map (λ (q : Part). the FIELD q.below) (cond c (p ∷ filter is_field_part ps) (filter is_field_part ps))
      go true e = ap (λ fs. the FIELD p.below ∷ fs) e
      go false e = e

  field_same : (x y : Run) → formed.is_same_field (field s a x) (field s a y) ≡ field_test (the FIELD x.head.below) (the FIELD y.head.below)
  unfolding formed.is_same_field
  field_same x y = refl

  fields_once : (ps : List Part) → all_differ formed.is_same_field (fields s a ps) ≡ true → fields_twice s a ps ≡ []
  fields_once ps h =
      let rs = filter (λ r. is_field_part r.head) (runs ps) in
      let differ : all_differ field_test (field_forests ps) ≡ true =
      ap (all_differ field_test) (sym (heads ps))
      ∙ (sym (differ_mapped field_test (λ (r : Run). the FIELD r.head.below) rs)
      ∙ (ap (λ (t : Run → Run → Bool). all_differ t rs) (λ i x y. sym (field_same x y) i) ∙ (differ_mapped formed.is_same_field (field s a) rs ∙ h))) in
      ap (map field_token) (none_again (is_same_field s a) field_test field_turned (is_field_unbroken s a) (field_forests ps) differ)

  -- ---- methods

  abbrev method_test : Forest → Forest → Bool
  method_test f g = is_same_text (method_name s f) (method_name s g) && is_same_signature (signature_of s a f) (signature_of s a g)

  method_turned : (f g : Forest) → is_same_method s a g f ≡ method_test f g
  method_turned f g = signed_turned (method_name s f) (method_name s g) (signature_of s a f) (signature_of s a g)

  method_same : (x y : Forest) → formed.is_same_method (method s a x) (method s a y) ≡ method_test x y
  unfolding formed.is_same_method
  method_same x y = refl

  methods_once : (ps : List Part) → all_differ formed.is_same_method (methods s a ps) ≡ true → methods_twice s a ps ≡ []
  methods_once ps h =
      let gs = method_forests ps in
      let differ : all_differ method_test gs ≡ true =
      ap (λ (t : Forest → Forest → Bool). all_differ t gs) (λ i x y. sym (method_same x y) i) ∙ (differ_mapped formed.is_same_method (method s a) gs ∙ h) in
      ap (map method_token) (none_again (is_same_method s a) method_test method_turned (is_method_unbroken s a) gs differ)

  -- ---- properties and events

  abbrev property_test : Forest → Forest → Bool
  property_test f g = is_same_text (name_text s (property_token f)) (name_text s (property_token g)) && is_same_signature (property_signature s a f) (property_signature s a g)

  property_turned : (f g : Forest) → is_same_property s a g f ≡ property_test f g
  property_turned f g = signed_turned (name_text s (property_token f)) (name_text s (property_token g)) (property_signature s a f) (property_signature s a g)

  property_same : (ms : List Forest) (x y : Forest) → formed.is_same_property (property s a ms x) (property s a ms y) ≡ property_test x y
  unfolding formed.is_same_property
  property_same ms x y = refl

  properties_once : (ps : List Part) → all_differ formed.is_same_property (properties s a ps) ≡ true → properties_twice s a ps ≡ []
  properties_once ps h =
      let gs = properties_in ps in
      let ms = method_forests ps in
      let differ : all_differ property_test gs ≡ true =
      ap (λ (t : Forest → Forest → Bool). all_differ t gs) (λ i x y. sym (property_same ms x y) i) ∙ (differ_mapped formed.is_same_property (property s a ms) gs ∙ h) in
      ap (map property_token) (none_again (is_same_property s a) property_test property_turned (is_property_unbroken s a) gs differ)

  abbrev event_test : Forest → Forest → Bool
  event_test f g = is_same_text (name_text s (property_token f)) (name_text s (property_token g))

  event_turned : (f g : Forest) → is_same_event s g f ≡ event_test f g
  event_turned f g = text_turned (name_text s (property_token g)) (name_text s (property_token f))

  event_same : (ms : List Forest) (x y : Forest) → formed.is_same_event (event s a ms x) (event s a ms y) ≡ event_test x y
  unfolding formed.is_same_event
  event_same ms x y = refl

  events_once : (ps : List Part) → all_differ formed.is_same_event (events s a ps) ≡ true → events_twice s ps ≡ []
  events_once ps h =
      let gs = events_in ps in
      let ms = method_forests ps in
      let differ : all_differ event_test gs ≡ true =
      ap (λ (t : Forest → Forest → Bool). all_differ t gs) (λ i x y. sym (event_same ms x y) i) ∙ (differ_mapped formed.is_same_event (event s a ms) gs ∙ h) in
      ap (map property_token) (none_at_all (is_same_event s) event_test event_turned gs differ)

pub members_are_once : IsTotalOrder term_order → MembersAreOnce
members_are_once total = record {
  fields = λ s a ps h. fields_once total s a ps h;
  methods = λ s a ps h. methods_once total s a ps h;
  properties = λ s a ps h. properties_once total s a ps h;
  events = λ s a ps h. events_once total s a ps h;
}
