-- The parts of a well-formed assembly meet their conditions, in the order of their rows, and none is heavier than the whole.
use Rattle.std.proofs.Common.{◌^◌, ◌≤◌, ◌==◌, ◌||◌, not, Bool, true, List, length, Option, Some, None, arith}
use Rattle.std.specs.Prelude.{IsTrue, sum_by, is_none}
use Rattle.std.specs.List.{AllByRecursion, flat_map, list_all}
use Rattle.assembly_tree.specs.Weight.{optional, owner_weight, bounds_weight, attribute_weight, constant_weight, generic_weight, field_weight, method_weight, param_weight, property_weight, event_weight, own_weight, weight_of}
use Rattle.assembly_tree.specs.WellFormed.{is_well_formed}
use Rattle.assembly_tree.specs.WellFormedFacts.{WellFormed, FormedHead, FormedType}
use Rattle.assembly_tree.specs.WellFormedMembers.{is_clear, is_attribute, is_constant, is_generic, is_field, is_method, is_param, is_property, is_event}
use Rattle.assembly_tree.specs.WellFormedTypes.{is_own}
use Rattle.assembly_tree.specs.declared.assembly.Assembly.{Assembly}
use Rattle.assembly_tree.specs.declared.members.Constant.{Constant}
use Rattle.assembly_tree.specs.declared.members.Event.{Event}
use Rattle.assembly_tree.specs.declared.members.Field.{Field}
use Rattle.assembly_tree.specs.declared.members.Generic.{Generic}
use Rattle.assembly_tree.specs.declared.members.Method.{Method}
use Rattle.assembly_tree.specs.declared.members.Param.{Param}
use Rattle.assembly_tree.specs.declared.members.Property.{Property}
use Rattle.assembly_tree.specs.declared.typedef.TypeDef.{TypeDef}
use Rattle.assembly_tree.specs.declared.typedef.TypeDef.TheOpen.{TypeDef-F}
use Rattle.assembly_tree.specs.declared.typedef.TypeDef.TheViews.{out-TypeDef}
use Rattle.assembly_tree.proofs.FormedFacts.{assemblies_named, heads_named, types_named, fields_named, methods_named, properties_named, events_named, signatures_named}
use Rattle.image_members.specs.Classes.{AreClasses}
use Rattle.image_members.specs.ConstantRows.{stated_constant}
use Rattle.image_members.specs.DeclaredMembers.{class_fields, class_methods}
use Rattle.image_members.specs.Lists.{params_in, properties_in, events_in, class_generics, class_attributes}
use Rattle.image_members.specs.Places.{all_fields, all_methods, class_properties, class_events, params_of}
use Rattle.image_members.specs.declared.classes.Class.{Class}
use Rattle.std.proofs.lemmas.Bool.{and_parts, leb-true, eqb-true}
use Rattle.assembly_tree.specs.WellFormedNames.{option_all, is_name, has_no_zero}
use Rattle.assembly_tree.specs.WellFormedTerms.{is_owner}
use Rattle.laws_writable_trees.proofs.Each.{split_three, split_five, each_from, each_both, each_joined, each_flat, each_light}
use Rattle.laws_writable_trees.proofs.Members.{IsFine, each_fine}
use Rattle.laws_writable_trees.proofs.Classes.{IsOwn, class_weight, classes_own, classes_weigh}

-- ---- classes

-- a type meets its conditions, and is light
pub record IsFineClass (a : Assembly) (c : Class) : Type 0 where
  pub top : Bool
  pub own : IsTrue (is_own a top (out-TypeDef c.of.now))
  pub light : class_weight c ≤ 2 ^ 26

module _ (a : Assembly) (classes : List Class) (are : AreClasses 0 2 a.types classes) (formed : IsTrue (is_well_formed a)) (light : weight_of a ≤ 2 ^ 26) where
  pub whole : WellFormed a
  whole = (assemblies_named a).0 formed

  classes_light : sum_by class_weight classes ≤ 2 ^ 26
  unfolding weight_of
  classes_light = let same = classes_weigh 0 2 a.types classes are in omega arith

  pub fine_classes : AllByRecursion (IsFineClass a) classes
  fine_classes =
      each_from (λ c. IsOwn a c × (class_weight c ≤ 2 ^ 26)) (IsFineClass a) (λ c h. record { top = h.0.top; own = h.0.own; light = h.1 }) classes
      (each_both (IsOwn a) (λ c. class_weight c ≤ 2 ^ 26) classes (classes_own a true 100 0 2 a.types classes are whole.classes) (each_light class_weight (2 ^ 26) classes classes_light))

-- the parts of a type
module _ (a : Assembly) (c : Class) (h : IsFineClass a c) where
  abbrev t : TypeDef-F TypeDef
  t = out-TypeDef c.of.now

  its : FormedType a h.top t
  its = (types_named a h.top t).0 h.own

  pub its_head : FormedHead a h.top t
  its_head = (heads_named a h.top t).0 its.head

  pub its_fields : AllByRecursion (IsFine (is_field a) field_weight) (class_fields c)
  unfolding own_weight
  its_fields = let light = h.light in each_fine (is_field a) field_weight (class_fields c) its.fields (omega arith)

  pub its_methods : AllByRecursion (IsFine (is_method a) method_weight) (class_methods c)
  unfolding own_weight
  its_methods = let light = h.light in each_fine (is_method a) method_weight (class_methods c) its.methods (omega arith)

  pub its_properties : AllByRecursion (IsFine (is_property a) property_weight) (class_properties c)
  unfolding own_weight
  its_properties = let light = h.light in each_fine (is_property a) property_weight (class_properties c) its.properties (omega arith)

  pub its_events : AllByRecursion (IsFine (is_event a) event_weight) (class_events c)
  unfolding own_weight
  its_events = let light = h.light in each_fine (is_event a) event_weight (class_events c) its.events (omega arith)

  pub its_generics : AllByRecursion (IsFine (is_generic a) generic_weight) (class_generics c)
  unfolding own_weight
  its_generics = let light = h.light in each_fine (is_generic a) generic_weight (class_generics c) its_head.generics (omega arith)

  pub its_generic_count : length (class_generics c) ≤ 65535
  its_generic_count = leb-true (length (class_generics c)) 65535 its_head.count

  pub its_attributes : AllByRecursion (IsFine (is_attribute a) attribute_weight) (class_attributes c)
  unfolding own_weight
  its_attributes = let light = h.light in each_fine (is_attribute a) attribute_weight (class_attributes c) its_head.attributes (omega arith)

  pub base_light : optional owner_weight (out-TypeDef c.of.now).extends ≤ 2 ^ 26
  unfolding own_weight
  base_light = let light = h.light in omega arith

  pub interfaces_light : sum_by owner_weight (out-TypeDef c.of.now).implements ≤ 2 ^ 26
  unfolding own_weight bounds_weight
  interfaces_light = let light = h.light in omega arith

-- ---- members

module _ (a : Assembly) where
  stated_light : (o : Option Constant) → optional constant_weight o ≤ 2 ^ 26 → AllByRecursion (λ c. constant_weight c ≤ 2 ^ 26) (stated_constant o)
  stated_light None k = tt
  stated_light (Some c) k = (k, tt)

  -- of a field

  pub field_attributes : (f : Field) → IsFine (is_field a) field_weight f → AllByRecursion (IsFine (is_attribute a) attribute_weight) f.attributes
  unfolding field_weight
  field_attributes f h =
      let light = h.light in
      each_fine (is_attribute a) attribute_weight f.attributes ((fields_named a f).0 h.formed).attributes (omega arith)

  pub field_constant : (f : Field) → IsFine (is_field a) field_weight f → AllByRecursion (λ c. constant_weight c ≤ 2 ^ 26) (stated_constant f.constant)
  unfolding field_weight
  field_constant f h = let light = h.light in stated_light f.constant (omega arith)

  -- of a method

  pub method_attributes : (m : Method) → IsFine (is_method a) method_weight m → AllByRecursion (IsFine (is_attribute a) attribute_weight) m.attributes
  unfolding method_weight
  method_attributes m h =
      let light = h.light in
      each_fine (is_attribute a) attribute_weight m.attributes ((methods_named a m).0 h.formed).attributes (omega arith)

  pub method_params : (m : Method) → IsFine (is_method a) method_weight m → AllByRecursion (IsFine (is_param a) param_weight) (params_of m)
  unfolding method_weight
  method_params m h = let light = h.light in each_fine (is_param a) param_weight m.params ((methods_named a m).0 h.formed).params (omega arith)

  pub method_generics : (m : Method) → IsFine (is_method a) method_weight m → AllByRecursion (IsFine (is_generic a) generic_weight) m.generics
  unfolding method_weight
  method_generics m h = let light = h.light in each_fine (is_generic a) generic_weight m.generics ((methods_named a m).0 h.formed).generics (omega arith)

  pub method_generic_count : (m : Method) → IsFine (is_method a) method_weight m → length m.generics ≤ 65535
  method_generic_count m h =
      let parts = (methods_named a m).0 h.formed in
      let few = leb-true m.sig.generic 65535 ((signatures_named a m.sig).0 parts.sig).generic in
      let same = eqb-true m.sig.generic (length m.generics) (and_parts (is_none m.sig.sentinel) (m.sig.generic == length m.generics) parts.declaration).1 in
      omega arith

  -- of a parameter

  pub param_attributes : (p : Param) → IsFine (is_param a) param_weight p → AllByRecursion (IsFine (is_attribute a) attribute_weight) p.attributes
  unfolding is_param param_weight
  param_attributes p h =
      let light = h.light in
      let parts = split_five (has_no_zero p.name) (not (p.number == 0) || (length p.name == 0)) (is_clear 0x1000 p.flags) (option_all is_constant p.constant) (list_all (is_attribute a) p.attributes) h.formed in
      each_fine (is_attribute a) attribute_weight p.attributes parts.4 (omega arith)

  pub param_constant : (p : Param) → IsFine (is_param a) param_weight p → AllByRecursion (λ c. constant_weight c ≤ 2 ^ 26) (stated_constant p.constant)
  unfolding param_weight
  param_constant p h = let light = h.light in stated_light p.constant (omega arith)

  pub param_named : (p : Param) → IsFine (is_param a) param_weight p → IsTrue (has_no_zero p.name)
  unfolding is_param
  param_named p h =
      (split_five (has_no_zero p.name) (not (p.number == 0) || (length p.name == 0)) (is_clear 0x1000 p.flags) (option_all is_constant p.constant) (list_all (is_attribute a) p.attributes) h.formed).0

  -- of a property and of an event

  pub property_attributes : (p : Property) → IsFine (is_property a) property_weight p → AllByRecursion (IsFine (is_attribute a) attribute_weight) p.attributes
  unfolding property_weight
  property_attributes p h =
      let light = h.light in
      each_fine (is_attribute a) attribute_weight p.attributes ((properties_named a p).0 h.formed).attributes (omega arith)

  pub property_constant : (p : Property) → IsFine (is_property a) property_weight p → AllByRecursion (λ c. constant_weight c ≤ 2 ^ 26) (stated_constant p.constant)
  unfolding property_weight
  property_constant p h = let light = h.light in stated_light p.constant (omega arith)

  pub event_attributes : (e : Event) → IsFine (is_event a) event_weight e → AllByRecursion (IsFine (is_attribute a) attribute_weight) e.attributes
  unfolding event_weight
  event_attributes e h =
      let light = h.light in
      each_fine (is_attribute a) attribute_weight e.attributes ((events_named a e).0 h.formed).attributes (omega arith)

  pub generic_attributes : (g : Generic) → IsFine (is_generic a) generic_weight g → AllByRecursion (IsFine (is_attribute a) attribute_weight) g.attributes
  unfolding is_generic generic_weight
  generic_attributes g h =
      let light = h.light in
      let parts = split_three (is_name g.name) (list_all (is_owner a) g.bounds) (list_all (is_attribute a) g.attributes) h.formed in
      each_fine (is_attribute a) attribute_weight g.attributes parts.2 (omega arith)

-- ---- all of them, in the order of their rows

module _ (a : Assembly) (classes : List Class) (are : AreClasses 0 2 a.types classes) (formed : IsTrue (is_well_formed a)) (light : weight_of a ≤ 2 ^ 26) where
  global_fields : AllByRecursion (IsFine (is_field a) field_weight) a.fields
  unfolding weight_of
  global_fields = each_fine (is_field a) field_weight a.fields (whole a classes are formed light).fields (omega arith)

  global_methods : AllByRecursion (IsFine (is_method a) method_weight) a.methods
  unfolding weight_of
  global_methods = each_fine (is_method a) method_weight a.methods (whole a classes are formed light).methods (omega arith)

  -- the parts of each class
  of_classes : {X : Type 0} (P : X → Type 0) (parts : Class → List X) → ((c : Class) → IsFineClass a c → AllByRecursion P (parts c)) → AllByRecursion P (flat_map parts classes)
  of_classes P parts f =
      each_flat P parts classes (each_from (IsFineClass a) (λ c. AllByRecursion P (parts c)) f classes (fine_classes a classes are formed light))

  pub fine_fields : AllByRecursion (IsFine (is_field a) field_weight) (all_fields a classes)
  fine_fields =
      each_joined (IsFine (is_field a) field_weight) a.fields (flat_map class_fields classes) global_fields (of_classes (IsFine (is_field a) field_weight) class_fields (its_fields a))

  pub fine_methods : AllByRecursion (IsFine (is_method a) method_weight) (all_methods a classes)
  fine_methods =
      each_joined (IsFine (is_method a) method_weight) a.methods (flat_map class_methods classes) global_methods (of_classes (IsFine (is_method a) method_weight) class_methods (its_methods a))

  pub fine_properties : AllByRecursion (IsFine (is_property a) property_weight) (properties_in classes)
  fine_properties = of_classes (IsFine (is_property a) property_weight) class_properties (its_properties a)

  pub fine_events : AllByRecursion (IsFine (is_event a) event_weight) (events_in classes)
  fine_events = of_classes (IsFine (is_event a) event_weight) class_events (its_events a)

  -- the parts of each method
  pub of_methods : {X : Type 0} (P : X → Type 0) (parts : Method → List X) → ((m : Method) → IsFine (is_method a) method_weight m → AllByRecursion P (parts m))
      → AllByRecursion (λ m. AllByRecursion P (parts m)) (all_methods a classes)
  of_methods P parts f = each_from (IsFine (is_method a) method_weight) (λ m. AllByRecursion P (parts m)) f (all_methods a classes) fine_methods

  pub fine_params : AllByRecursion (IsFine (is_param a) param_weight) (params_in a classes)
  fine_params = each_flat (IsFine (is_param a) param_weight) params_of (all_methods a classes) (of_methods (IsFine (is_param a) param_weight) params_of (method_params a))
