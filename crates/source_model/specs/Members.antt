-- The members of a class, and what is declared outside of any (ECMA-335 II.10.2, II.15, II.16, II.17, II.18).
use Rattle.std.specs.Prelude.{ℕ, ◌==◌, ◌&&◌, ◌||◌, Bool, if◌then◌else◌, List, [], ◌∷◌, map, filter, bytes_eq, position, Option, None, Some}
use Rattle.type_terms.specs.declared.reference.MethodRef.{MethodRef}
use Rattle.assembly_tree.specs.WellFormedMembers.{is_same_signature}
use Rattle.assembly_tree.specs.declared.members.Accessor.{Accessor}
use Rattle.assembly_tree.specs.declared.members.Event.{Event}
use Rattle.assembly_tree.specs.declared.members.Field.{Field}
use Rattle.assembly_tree.specs.declared.members.Method.{Method}
use Rattle.assembly_tree.specs.declared.members.Property.{Property}
use Rattle.ilasm_grammar.specs.declared.productions.TheConstants.{
  TYPE,
  FIELD,
  METHOD,
  PROPERTY,
  EVENT,
  METHOD_REF,
  BRACKETED_INT,
  BRACKETED_INT_OPT_SOME,
  OVERRIDDEN_METHOD,
  OVERRIDDEN_SPEC,
  ITEM_ENTRYPOINT,
  DECL_FIELD,
  DECL_METHOD,
  MEMBER_FIELD,
  MEMBER_METHOD,
  MEMBER_PROPERTY,
  MEMBER_EVENT,
  PROPERTY_ITEM_GET,
  PROPERTY_ITEM_SET,
  PROPERTY_ITEM_OTHER,
  PROPERTY_ITEM_CUSTOM,
  EVENT_ITEM_ADDON,
  EVENT_ITEM_REMOVEON,
  EVENT_ITEM_FIRE,
  EVENT_ITEM_OTHER,
  EVENT_ITEM_CUSTOM,
}
use Rattle.source_model.specs.Bodies.{body}
use Rattle.source_model.specs.Constants.{constant_of}
use Rattle.source_model.specs.Data.{content}
use Rattle.source_model.specs.Flags.{field_flags, method_flags, implementation_flags, property_flags, event_flags}
use Rattle.source_model.specs.Forest.{Forest, Part, parts, has, the, child, leaf_at}
use Rattle.source_model.specs.Items.{Run, runs, items_and_ends, own_customs}
use Rattle.source_model.specs.Manifests.{attributes}
use Rattle.source_model.specs.Nodes.{Around}
use Rattle.source_model.specs.Parameters.{generics, params}
use Rattle.source_model.specs.References.{method_name, method_ref, method_signature, property_signature, reference_name, reference_signature}
use Rattle.source_model.specs.Shapes.{natural}
use Rattle.source_model.specs.Source.{Source}
use Rattle.source_model.specs.Types.{type_of, the_owner}
use Rattle.source_model.specs.Values.{int_at, name_text}

-- ---- fields

-- the token of a field's name: the last at the top
abbrev pub field_token : Forest → ℕ
field_token f = leaf_at 1 f

-- the place of a field in a type with explicit layout (ECMA-335 II.10.7)
abbrev pub field_offset : Source → Forest → Option ℕ
field_offset s f =
    if has BRACKETED_INT (child (BRACKETED_INT_OPT_SOME ∷ []) f)
    then Some (natural (int_at s (leaf_at 1 (the BRACKETED_INT (child (BRACKETED_INT_OPT_SOME ∷ []) f)))))
    else None

-- a field, from its declaration and the attributes behind it
abbrev pub field_from : Source → Around → Forest → List Part → Field
field_from s a f customs = record {
  name = name_text s (field_token f);
  flags = field_flags s f;
  of = type_of s a (child (TYPE ∷ []) f);
  constant = constant_of s f;
  offset = field_offset s f;
  content = content s (type_of s a (child (TYPE ∷ []) f)) f;
  attributes = attributes s a customs;
}

abbrev pub field : Source → Around → Run → Field
field s a r = field_from s a (the FIELD r.head.below) r.customs

abbrev pub is_field_part : Part → Bool
is_field_part p = p.production == DECL_FIELD || p.production == MEMBER_FIELD

-- the fields among these members or declarations
abbrev pub fields : Source → Around → List Part → List Field
fields s a ps = map (field s a) (filter (λ r. is_field_part r.head) (runs ps))

-- ---- methods

-- what stands around the parts of a method
abbrev pub in_method : Around → Forest → Around
in_method a f = record { path = a.path; class = a.class; method = f }

-- a method that this one overrides: a whole reference, or a name of another type with this method's own signature
-- (ECMA-335 II.10.3.2)
abbrev pub overridden : Source → Around → Forest → Part → MethodRef
overridden s a f p =
    if p.production == OVERRIDDEN_METHOD then method_ref s a (the METHOD_REF p.below)
    else record { owner = the_owner s a p.below; name = method_name s p.below; sig = method_signature s a f; args = None }

-- a method, from what stands below its production and around its parts
abbrev pub method_from : Source → Around → Forest → Method
method_from s a f = record {
  name = method_name s f;
  flags = method_flags s f;
  impl_flags = implementation_flags s f;
  sig = method_signature s a f;
  generics = generics s a f (runs (items_and_ends f));
  params = params s a f (runs (items_and_ends f));
  overrides = map (overridden s a f) (parts (OVERRIDDEN_METHOD ∷ OVERRIDDEN_SPEC ∷ []) f);
  entry = has ITEM_ENTRYPOINT f;
  body = body s a f;
  attributes = attributes s a (own_customs (items_and_ends f));
}

abbrev pub method : Source → Around → Forest → Method
method s a f = method_from s (in_method a f) f

abbrev pub is_method_part : Part → Bool
is_method_part p = p.production == DECL_METHOD || p.production == MEMBER_METHOD

-- the methods among these members or declarations, each by what stands below its production
abbrev pub method_forests : List Part → List Forest
method_forests ps = map (λ p. the METHOD p.below) (filter is_method_part ps)

abbrev pub methods : Source → Around → List Part → List Method
methods s a ps = map (method s a) (method_forests ps)

-- ---- accessors (ECMA-335 II.17, II.18, II.22.28)

abbrev pub accessors_in : Forest → List Part
accessors_in f =
    parts
    (PROPERTY_ITEM_GET ∷ PROPERTY_ITEM_SET ∷ PROPERTY_ITEM_OTHER ∷ EVENT_ITEM_ADDON ∷ EVENT_ITEM_REMOVEON ∷ EVENT_ITEM_FIRE
    ∷ EVENT_ITEM_OTHER ∷ [])
    f

-- what the method does (ECMA-335 II.23.1.12)
abbrev pub accessor_kind : ℕ → ℕ
accessor_kind p =
    if p == PROPERTY_ITEM_SET then 1 else if p == PROPERTY_ITEM_GET then 2 else if p == EVENT_ITEM_ADDON then 8
    else if p == EVENT_ITEM_REMOVEON then 0x10 else if p == EVENT_ITEM_FIRE then 0x20 else 4

-- a method of the class has the name and the signature of a reference
abbrev pub is_meant : Source → Around → Forest → Forest → Bool
is_meant s a reference m =
    bytes_eq (method_name s m) (reference_name s a reference)
    && is_same_signature (method_signature s (in_method a m) m) (reference_signature s a reference)

abbrev pub or_first : Option ℕ → ℕ
or_first None = 0
or_first (Some k) = k

-- an accessor, with the methods of its class
abbrev pub accessor : Source → Around → List Forest → Part → Accessor
accessor s a ms p = record {
  kind = accessor_kind p.production;
  method = or_first (position (is_meant s a (the METHOD_REF p.below)) ms);
}

-- ---- properties and events

-- the token of the name of a property or an event
abbrev pub property_token : Forest → ℕ
property_token f = leaf_at 1 f

abbrev pub property : Source → Around → List Forest → Forest → Property
property s a ms f = record {
  name = name_text s (property_token f);
  flags = property_flags s f;
  sig = property_signature s a f;
  constant = constant_of s f;
  accessors = map (accessor s a ms) (accessors_in f);
  attributes = attributes s a (parts (PROPERTY_ITEM_CUSTOM ∷ []) f);
}

abbrev pub event : Source → Around → List Forest → Forest → Event
event s a ms f = record {
  name = name_text s (property_token f);
  flags = event_flags s f;
  of = the_owner s a f;
  accessors = map (accessor s a ms) (accessors_in f);
  attributes = attributes s a (parts (EVENT_ITEM_CUSTOM ∷ []) f);
}

abbrev pub properties_in : List Part → List Forest
properties_in ps = map (λ p. the PROPERTY p.below) (filter (λ p. p.production == MEMBER_PROPERTY) ps)

abbrev pub events_in : List Part → List Forest
events_in ps = map (λ p. the EVENT p.below) (filter (λ p. p.production == MEMBER_EVENT) ps)

abbrev pub properties : Source → Around → List Part → List Property
properties s a ps = map (property s a (method_forests ps)) (properties_in ps)

abbrev pub events : Source → Around → List Part → List Event
events s a ps = map (event s a (method_forests ps)) (events_in ps)
