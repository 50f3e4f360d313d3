-- The names of a well-formed assembly aren't empty, and what its attributes and overrides name has no arguments.
use Rattle.std.proofs.Common.{◌≡◌, ◌≢◌, inr, refl, sym, ap, subst, ℕ, ◌==◌, ◌||◌, true≢false, not, nat_lt, List, [], ◌∷◌, ◌++◌, map, length, Option, Some, None, arith}
use Rattle.std.specs.Prelude.{⊤, IsTrue, is_none}
use Rattle.std.specs.List.{AllByRecursion, list_all}
use Rattle.std.proofs.lemmas.Bool.{and_parts, ltb-true}
use Rattle.assembly_tree.specs.WellFormed.{is_image_base, is_file_alignment, are_cor_flags, is_manifest, is_extern, is_well_formed}
use Rattle.assembly_tree.specs.WellFormedMembers.{is_clear, is_attribute, is_constant, is_generic, is_field, is_method, is_param, is_property, is_event}
use Rattle.assembly_tree.specs.WellFormedNames.{option_all, has_no_zero, is_name, is_type_id}
use Rattle.assembly_tree.specs.WellFormedTerms.{is_method_ref, is_owner, is_plain_ref}
use Rattle.assembly_tree.specs.declared.assembly.Assembly.{Assembly}
use Rattle.assembly_tree.specs.declared.assembly.ExternAssembly.{ExternAssembly}
use Rattle.assembly_tree.specs.declared.assembly.Manifest.{Manifest}
use Rattle.assembly_tree.specs.declared.members.Attribute.{Attribute}
use Rattle.assembly_tree.specs.declared.members.Event.{Event}
use Rattle.assembly_tree.specs.declared.members.Field.{Field}
use Rattle.assembly_tree.specs.declared.members.Generic.{Generic}
use Rattle.assembly_tree.specs.declared.members.Method.{Method}
use Rattle.assembly_tree.specs.declared.members.Param.{Param}
use Rattle.assembly_tree.specs.declared.members.Property.{Property}
use Rattle.assembly_tree.proofs.FormedFacts.{fields_named, methods_named, properties_named, events_named}
use Rattle.metadata_tables.specs.declared.coded.Coded.TheVariants.{HasCustomAttribute}
use Rattle.type_terms.specs.declared.name.TypeId.{TypeId}
use Rattle.type_terms.specs.declared.reference.MethodRef.{MethodRef}
use Rattle.type_terms.specs.declared.term.SigType.{SigType}
use Rattle.laws_image_indexes.proofs.EachLemmas.{each_all, each_mapped, each_weaker}
use Rattle.image_tokens.specs.References.{AreKnown}
use Rattle.image_tokens.specs.declared.references.References.{References}
use Rattle.image_members.specs.Classes.{AreClasses}
use Rattle.image_members.specs.Declaring.{module_id, class_id}
use Rattle.image_members.specs.Lists.{longest_of, class_attributes, attribute_lists, attribute_items, generic_items, generics_in, params_in, properties_in, events_in}
use Rattle.image_members.specs.Places.{all_fields, all_methods}
use Rattle.image_members.specs.declared.classes.Class.{Class}
use Rattle.laws_image_reading.specs.cells.NamedRows.{HasNamedRows}
use Rattle.laws_image_reading.proofs.cells.EachLemmas.{split_three, split_five, split_eight, each_apart, each_by_number, each_true}
use Rattle.laws_image_reading.proofs.cells.FormedParts.{IsOwn, its_head, whole, formed_classes, formed_fields, formed_methods, formed_properties, formed_events, formed_params, formed_items, formed_generics}
use Rattle.laws_image_reading.proofs.cells.OwnedRows.{ArePlain}
use Rattle.laws_image_reading.proofs.cells.PlainRows.{AreNamed}

-- ---- where nothing is asked of a name

pub any_names : (a : Assembly) (classes : List Class) (r : References) → AreKnown r → AreNamed (λ text. ⊤) a classes r
any_names a classes r known = record {
  module_name = tt;
  assembly_name = tt;
  externs = each_all (λ (e : ExternAssembly). ⊤) a.externs (λ e. tt);
  module_type = tt;
  classes_named = each_all (λ (c : Class). ⊤) classes (λ c. tt);
  fields = each_all (λ (f : Field). ⊤) (all_fields a classes) (λ f. tt);
  methods = each_all (λ (m : Method). ⊤) (all_methods a classes) (λ m. tt);
  properties = each_all (λ (p : Property). ⊤) (properties_in classes) (λ p. tt);
  events = each_all (λ (e : Event). ⊤) (events_in classes) (λ e. tt);
  generics = each_all (λ (g : ℕ × (ℕ × Generic)). ⊤) (generic_items a classes) (λ g. tt);
  names = λ k c at. let n = known.rows.names k c at in record { text = n.lies.path.id.name; there = n.lies.path.id_is.name_is.there; wanted = inr tt };
  members = λ k c at. let m = known.rows.members k c at in record { text = m.name; there = m.name_is.there; wanted = inr tt };
}

-- ---- names

name_some : (text : List ℕ) → IsTrue (is_name text) → text ≢ []
name_some text h e =
    let some = ltb-true 0 (length text) (and_parts (nat_lt 0 (length text)) (has_no_zero text) h).0 in
    let none : length text ≡ 0 = ap length e in
    omega arith

module_some : module_id.name ≢ []
module_some e = let no : ◌≡◌ {A = ℕ} 8 0 = ap length e in omega arith

id_some : (id : TypeId) → IsTrue (is_type_id id) → id.name ≢ []
id_some id h = name_some id.name (and_parts (has_no_zero id.space) (is_name id.name) h).1

manifest_some : (a : Assembly) (m : Manifest) → IsTrue (is_manifest a m) → (m.name ≢ []) × (m.module ≢ [])
unfolding is_manifest
manifest_some a m h =
    let parts = split_eight (is_name m.name) (has_no_zero m.culture) (is_name m.module) (is_image_base m.image_base) (is_file_alignment m.file_alignment) (are_cor_flags m.cor_flags)
    (list_all (is_attribute a) m.attributes) (list_all (is_attribute a) m.module_attributes) h in
    (name_some m.name parts.0, name_some m.module parts.2)

extern_some : (e : ExternAssembly) → IsTrue (is_extern e) → e.name ≢ []
unfolding is_extern
extern_some e h = name_some e.name (and_parts (is_name e.name) (has_no_zero e.culture) h).0

generic_some : (a : Assembly) (g : Generic) → IsTrue (is_generic a g) → g.name ≢ []
unfolding is_generic
generic_some a g h = name_some g.name (split_three (is_name g.name) (list_all (is_owner a) g.bounds) (list_all (is_attribute a) g.attributes) h).0

-- a name on a path
on_path : (path before after : List TypeId) (id : TypeId) → path ≡ before ++ id ∷ after → AllByRecursion (λ (x : TypeId). x.name ≢ []) path → id.name ≢ []
on_path path before after id e all =
    (each_apart (λ (x : TypeId). x.name ≢ []) before (id ∷ after) (subst (AllByRecursion (λ (x : TypeId). x.name ≢ [])) e all)).1.0

-- ---- methods without arguments

none_is : (args : Option (List SigType)) → IsTrue (is_none args) → args ≡ None
none_is None h = refl
none_is (Some ts) h = absurd (true≢false (sym h))

plain_args : (a : Assembly) (m : MethodRef) → IsTrue (is_plain_ref a m) → m.args ≡ None
unfolding is_plain_ref
plain_args a m h = none_is m.args (and_parts (is_none m.args) (is_method_ref a m) h).0

abbrev IsPlain : Attribute → Type 0
IsPlain x = x.constructor.args ≡ None

attribute_plain : (a : Assembly) (x : Attribute) → IsTrue (is_attribute a x) → IsPlain x
unfolding is_attribute
attribute_plain a x h = plain_args a x.constructor h

plain_each : (a : Assembly) (xs : List Attribute) → IsTrue (list_all (is_attribute a) xs) → AllByRecursion IsPlain xs
plain_each a xs h = each_weaker (λ x. IsTrue (is_attribute a x)) IsPlain xs (attribute_plain a) (each_true (is_attribute a) xs h)

param_plain : (a : Assembly) (p : Param) → IsTrue (is_param a p) → AllByRecursion IsPlain p.attributes
unfolding is_param
param_plain a p h =
    plain_each a p.attributes
    (split_five (has_no_zero p.name) (not (p.number == 0) || (length p.name == 0)) (is_clear 0x1000 p.flags) (option_all is_constant p.constant) (list_all (is_attribute a) p.attributes) h).4

generic_plain : (a : Assembly) (g : Generic) → IsTrue (is_generic a g) → AllByRecursion IsPlain g.attributes
unfolding is_generic
generic_plain a g h = plain_each a g.attributes (split_three (is_name g.name) (list_all (is_owner a) g.bounds) (list_all (is_attribute a) g.attributes) h).2

overrides_plain : (a : Assembly) (m : Method) → IsTrue (is_method a m) → AllByRecursion (λ (o : MethodRef). o.args ≡ None) m.overrides
overrides_plain a m h =
    each_weaker (λ o. IsTrue (is_plain_ref a o)) (λ (o : MethodRef). o.args ≡ None) m.overrides (plain_args a) (each_true (is_plain_ref a) m.overrides ((methods_named a m).0 h).overrides)

manifest_plain : (a : Assembly) (m : Manifest) → IsTrue (is_manifest a m) → AllByRecursion IsPlain m.module_attributes × AllByRecursion IsPlain m.attributes
unfolding is_manifest
manifest_plain a m h =
    let parts = split_eight (is_name m.name) (has_no_zero m.culture) (is_name m.module) (is_image_base m.image_base) (is_file_alignment m.file_alignment) (are_cor_flags m.cor_flags)
    (list_all (is_attribute a) m.attributes) (list_all (is_attribute a) m.module_attributes) h in
    (plain_each a m.module_attributes parts.7, plain_each a m.attributes parts.6)

-- the attributes of each item
listed : {X : Type 0} (P : X → Type 0) (of : X → List Attribute) (xs : List X) → ((x : X) → P x → AllByRecursion IsPlain (of x)) → AllByRecursion P xs
    → AllByRecursion (AllByRecursion IsPlain) (map of xs)
listed P of xs f h = each_mapped (AllByRecursion IsPlain) of xs (each_weaker P (λ x. AllByRecursion IsPlain (of x)) xs f h)

-- ---- an assembly

module _ (a : Assembly) (classes : List Class) (are : AreClasses 0 2 a.types classes) (formed : IsTrue (is_well_formed a)) where
  fields : AllByRecursion (λ (f : Field). IsTrue (is_field a f)) (all_fields a classes)
  fields = formed_fields a classes are formed

  methods : AllByRecursion (λ (m : Method). IsTrue (is_method a m)) (all_methods a classes)
  methods = formed_methods a classes are formed

  properties : AllByRecursion (λ (p : Property). IsTrue (is_property a p)) (properties_in classes)
  properties = formed_properties a classes are formed

  events : AllByRecursion (λ (e : Event). IsTrue (is_event a e)) (events_in classes)
  events = formed_events a classes are formed

  pub names_formed : (r : References) → HasNamedRows r → AreNamed (λ text. text ≢ []) a classes r
  names_formed r named =
      let w = whole a classes are formed in
      let manifest = manifest_some a a.manifest w.manifest in
      record {
        module_name = manifest.1;
        assembly_name = manifest.0;
        externs = each_weaker (λ e. IsTrue (is_extern e)) (λ (e : ExternAssembly). e.name ≢ []) a.externs extern_some (each_true is_extern a.externs w.externs);
        module_type = module_some;
        classes_named = each_weaker (IsOwn a) (λ c. (class_id c).name ≢ []) classes (λ c h. id_some (class_id c) (its_head a c h).id) (formed_classes a classes are formed);
        fields = each_weaker (λ f. IsTrue (is_field a f)) (λ (f : Field). f.name ≢ []) (all_fields a classes) (λ f h. name_some f.name ((fields_named a f).0 h).name) fields;
        methods = each_weaker (λ m. IsTrue (is_method a m)) (λ (m : Method). m.name ≢ []) (all_methods a classes) (λ m h. name_some m.name ((methods_named a m).0 h).name) methods;
        properties = each_weaker (λ p. IsTrue (is_property a p)) (λ (p : Property). p.name ≢ []) (properties_in classes) (λ p h. name_some p.name ((properties_named a p).0 h).name) properties;
        events = each_weaker (λ e. IsTrue (is_event a e)) (λ (e : Event). e.name ≢ []) (events_in classes) (λ e h. name_some e.name ((events_named a e).0 h).name) events;
        generics =
            each_weaker (λ (x : ℕ × (ℕ × Generic)). IsTrue (is_generic a x.1.1)) (λ (x : ℕ × (ℕ × Generic)). x.1.1.name ≢ []) (generic_items a classes) (λ x h. generic_some a x.1.1 h)
            (formed_items a classes are formed);
        names = λ k c at.
            let n = named.names k c at in
            let p = n.row.lies.path in
            record { text = p.id.name; there = p.id_is.name_is.there; wanted = inr (on_path n.row.name.path p.before p.after p.id p.is n.named) };
        members = λ k c at. let m = named.members k c at in record { text = m.row.name; there = m.row.name_is.there; wanted = inr m.named };
      }

  attributes_plain : AllByRecursion (λ (x : ℕ × Attribute). IsPlain x.1) (attribute_items a classes)
  attributes_plain =
      let manifest = manifest_plain a a.manifest (whole a classes are formed).manifest in
      each_by_number IsPlain HasCustomAttribute (attribute_lists a classes) (longest_of (attribute_lists a classes)) (
        listed (λ m. IsTrue (is_method a m)) (λ (m : Method). m.attributes) (all_methods a classes) (λ m h. plain_each a m.attributes ((methods_named a m).0 h).attributes) methods,
        (
          listed (λ f. IsTrue (is_field a f)) (λ (f : Field). f.attributes) (all_fields a classes) (λ f h. plain_each a f.attributes ((fields_named a f).0 h).attributes) fields,
          (
            (tt, listed (IsOwn a) class_attributes classes (λ c h. plain_each a (class_attributes c) (its_head a c h).attributes) (formed_classes a classes are formed)),
            (
              listed (λ p. IsTrue (is_param a p)) (λ (p : Param). p.attributes) (params_in a classes) (param_plain a) (formed_params a classes are formed),
              (
                (manifest.0, tt),
                (
                  listed (λ p. IsTrue (is_property a p)) (λ (p : Property). p.attributes) (properties_in classes) (λ p h. plain_each a p.attributes ((properties_named a p).0 h).attributes) properties,
                  (
                    listed (λ e. IsTrue (is_event a e)) (λ (e : Event). e.attributes) (events_in classes) (λ e h. plain_each a e.attributes ((events_named a e).0 h).attributes) events,
                    ((manifest.1, tt), (listed (λ g. IsTrue (is_generic a g)) (λ (g : Generic). g.attributes) (generics_in a classes) (generic_plain a) (formed_generics a classes are formed), tt)),
                  ),
                ),
              ),
            ),
          ),
        ),
      )

  pub plain_formed : ArePlain a classes
  plain_formed = record {
    attributes = attributes_plain;
    overridden = each_weaker (λ m. IsTrue (is_method a m)) (λ (m : Method). AllByRecursion (λ (o : MethodRef). o.args ≡ None) m.overrides) (all_methods a classes) (overrides_plain a) methods;
  }
