-- All that the rows of a well-formed assembly are made of can be written.
use Rattle.std.proofs.Common.{ℕ, ◌+◌, ◌^◌, ◌<◌, ◌≤◌, true, List, [], ◌∷◌, map, length, Option, Some, None, arith}
use Rattle.std.specs.Prelude.{IsTrue}
use Rattle.std.specs.List.{AllByRecursion, enumerate_from, flat_map, list_all}
use Rattle.std.proofs.lemmas.Bool.{and_parts}
use Rattle.assembly_tree.specs.Room.{Units, method_texts, typedef_texts, texts}
use Rattle.assembly_tree.specs.Weight.{optional, owner_weight, attribute_weight, constant_weight, extern_weight, manifest_weight, generic_weight, field_weight, method_weight, method_ref_weight, param_weight, property_weight, event_weight, weight_of}
use Rattle.assembly_tree.specs.WellFormed.{is_image_base, is_file_alignment, are_cor_flags, is_manifest, is_extern, is_well_formed}
use Rattle.assembly_tree.specs.WellFormedMembers.{is_attribute, is_generic, is_field, is_method, is_param, is_property, is_event}
use Rattle.assembly_tree.specs.WellFormedNames.{has_no_zero, is_name, is_type_name, option_all}
use Rattle.assembly_tree.specs.WellFormedTerms.{is_owner, is_plain_ref}
use Rattle.assembly_tree.specs.declared.assembly.Assembly.{Assembly}
use Rattle.assembly_tree.specs.declared.assembly.ExternAssembly.{ExternAssembly}
use Rattle.assembly_tree.specs.declared.assembly.Manifest.{Manifest}
use Rattle.assembly_tree.specs.declared.members.Attribute.{Attribute}
use Rattle.assembly_tree.specs.declared.members.Constant.{Constant}
use Rattle.assembly_tree.specs.declared.members.Event.{Event}
use Rattle.assembly_tree.specs.declared.members.Field.{Field}
use Rattle.assembly_tree.specs.declared.members.Generic.{Generic}
use Rattle.assembly_tree.specs.declared.members.Method.{Method}
use Rattle.assembly_tree.specs.declared.members.Param.{Param}
use Rattle.assembly_tree.specs.declared.members.Property.{Property}
use Rattle.assembly_tree.specs.declared.typedef.TypeDef.TheViews.{out-TypeDef}
use Rattle.assembly_tree.proofs.FormedFacts.{assemblies_named, heads_named, types_named, fields_named, methods_named, properties_named, events_named}
use Rattle.metadata_tables.specs.declared.coded.Coded.TheVariants.{HasConstant, HasCustomAttribute, TypeOrMethodDef}
use Rattle.type_terms.specs.declared.name.TypeName.{TypeName}
use Rattle.type_terms.specs.declared.term.Owner.{Owner}
use Rattle.image_tokens.specs.Texts.{IsPlainId}
use Rattle.image_tokens.specs.Units.{IsLoadable}
use Rattle.image_tokens.specs.Writable.{CanBeNamed, IsOwnerWritable, IsMethodRefWritable}
use Rattle.image_tokens.specs.declared.references.References.{References}
use Rattle.image_rows.specs.AttributeRows.{CanPushAttribute}
use Rattle.image_members.specs.Classes.{AreClasses}
use Rattle.image_members.specs.CodeBytes.{body_of, CanPushStated}
use Rattle.image_members.specs.ConstantRows.{stated_constant, CanPushConstant}
use Rattle.image_members.specs.DeclaredMembers.{class_methods, IsFieldDeclarable, IsMethodDeclarable}
use Rattle.image_members.specs.Declaring.{class_id}
use Rattle.image_rows.specs.EventRows.{CanPushEvent}
use Rattle.image_members.specs.GenericRows.{generic_of, bounds_in, CanPushBound, CanPushGeneric}
use Rattle.image_rows.specs.InterfaceRows.{class_interfaces, interfaces_from}
use Rattle.image_members.specs.Lists.{longest_of, class_generics, class_attributes, attribute_lists, attribute_items, constant_lists, constant_items, generic_lists, generic_items, generics_in, params_in, properties_in, events_in}
use Rattle.image_members.specs.ManifestRows.{IsPlainManifest, IsPlainExtern}
use Rattle.image_rows.specs.ParamRows.{IsPlainParam}
use Rattle.image_members.specs.Places.{all_fields, all_methods}
use Rattle.image_rows.specs.PropertyRows.{CanPushProperty}
use Rattle.image_rows.specs.TypeRows.{base_of, CanBeBase}
use Rattle.image_members.specs.declared.classes.Class.{Class}
use Rattle.laws_writable_trees.specs.Laws.{TypesAreDeclarable, FormedCanFill, AccessorsHaveRows}
use Rattle.laws_writable_trees.specs.Ranges.{IsMethodInRange}
use Rattle.laws_writable_trees.proofs.Accessors.{accessors_low, accessors_there}
use Rattle.laws_writable_trees.proofs.Apart.{places_apart}
use Rattle.laws_writable_trees.proofs.Bodies.{stated_can}
use Rattle.laws_writable_trees.proofs.Classes.{IsOwn, classes_own, texts_in}
use Rattle.laws_writable_trees.proofs.Constants.{value_short}
use Rattle.laws_writable_trees.proofs.Each.{split_eight, each_apart, each_both, each_by_number, each_flat, each_from, each_joined, each_mapped, each_numbered, each_true, each_unflat, each_weighs}
use Rattle.laws_writable_trees.proofs.Members.{IsFine, each_fine, signature_can, property_signature_can, plain_ref_can, attribute_can, bounds_can, generic_named}
use Rattle.laws_writable_trees.proofs.Names.{no_zero, plain_name, plain_id, name_can}
use Rattle.laws_writable_trees.proofs.Parts.{IsFineClass, whole, fine_classes, its_head, its_generics, its_generic_count, its_attributes, base_light, interfaces_light, field_attributes, field_constant, method_attributes, method_generics, method_generic_count, param_attributes, param_constant, param_named, property_attributes, property_constant, event_attributes, generic_attributes, fine_fields, fine_methods, fine_properties, fine_events, fine_params}
use Rattle.laws_writable_trees.proofs.Types.{type_can, owner_can, owners_can}

-- ---- what stands alone

plain_manifest : (a : Assembly) (m : Manifest) → IsTrue (is_manifest a m) → IsPlainManifest m
unfolding is_manifest
plain_manifest a m h =
    let parts = split_eight (is_name m.name) (has_no_zero m.culture) (is_name m.module) (is_image_base m.image_base) (is_file_alignment m.file_alignment) (are_cor_flags m.cor_flags)
    (list_all (is_attribute a) m.attributes) (list_all (is_attribute a) m.module_attributes) h in
    record { name = plain_name m.name parts.0; culture = no_zero m.culture parts.1; module_name = plain_name m.module parts.2 }

plain_extern : (e : ExternAssembly) → IsTrue (is_extern e) → IsPlainExtern e
unfolding is_extern
plain_extern e h = let both = and_parts (is_name e.name) (has_no_zero e.culture) h in record { name = plain_name e.name both.0; culture = no_zero e.culture both.1 }

extern_heavy : (e : ExternAssembly) → 64 ≤ extern_weight e
unfolding extern_weight
extern_heavy e = omega arith

-- numbered generic parameters, of which there are few
abbrev IsNumbered : Assembly → ℕ × Generic → Type 0
IsNumbered a g = (g.0 < 2 ^ 16) × IsFine (is_generic a) generic_weight g.1

numbered_few : (a : Assembly) (n : ℕ) (gs : List Generic) → n + length gs ≤ 65535 → AllByRecursion (IsFine (is_generic a) generic_weight) gs → AllByRecursion (IsNumbered a) (enumerate_from n gs)
numbered_few a n [] few h = tt
numbered_few a n (g ∷ gs) few h = ((omega arith, h.0), numbered_few a (n + 1) gs (omega arith) h.1)

-- ---- the types

pub types_declarable : TypesAreDeclarable
types_declarable a classes h are =
    let f = (assemblies_named a).0 h in
    record {
      plain =
          each_from (IsOwn a) (λ c. IsPlainId (class_id c)) (λ c own. plain_id (class_id c) ((heads_named a own.top (out-TypeDef c.of.now)).0 ((types_named a own.top (out-TypeDef c.of.now)).0 own.own).head).id)
          classes (classes_own a true 100 0 2 a.types classes are f.classes);
      apart = places_apart a classes are f.classes;
    }

-- ---- members

module _ (a : Assembly) (r : References) (names : (name : TypeName) → IsTrue (is_type_name a name) → CanBeNamed r name) where
  field_can : (f : Field) → IsFine (is_field a) field_weight f → IsFieldDeclarable r f
  unfolding field_weight
  field_can f h =
      let parts = (fields_named a f).0 h.formed in
      let light = h.light in
      record { name = plain_name f.name parts.name; of = type_can a r names f.of parts.of (omega arith) }

  method_can : (m : Method) → IsFine (is_method a) method_weight m → IsMethodDeclarable r m
  unfolding method_weight
  method_can m h =
      let parts = (methods_named a m).0 h.formed in
      let light = h.light in
      record { name = plain_name m.name parts.name; sig = signature_can a r names m.sig parts.sig (omega arith) }

  overrides_can : (m : Method) → IsFine (is_method a) method_weight m → AllByRecursion (IsMethodRefWritable r) m.overrides
  unfolding method_weight
  overrides_can m h =
      let light = h.light in
      each_from (IsFine (is_plain_ref a) method_ref_weight) (IsMethodRefWritable r) (λ o fine. plain_ref_can a r names o fine.formed fine.light) m.overrides
      (each_fine (is_plain_ref a) method_ref_weight m.overrides ((methods_named a m).0 h.formed).overrides (omega arith))

  method_body_can : (m : Method) → IsFine (is_method a) method_weight m → AllByRecursion (IsLoadable r.heaps.user) (method_texts m) → IsMethodInRange m → CanPushStated r (body_of m)
  unfolding method_weight method_texts
  method_body_can m h t range =
      let light = h.light in
      stated_can a r names m.body ((methods_named a m).0 h.formed).body (omega arith) t range

  property_can : (p : Property) → IsFine (is_property a) property_weight p → CanPushProperty r p
  unfolding property_weight
  property_can p h =
      let parts = (properties_named a p).0 h.formed in
      let light = h.light in
      record { name = plain_name p.name parts.name; sig = property_signature_can a r names p.sig parts.declaration parts.sig (omega arith) }

  event_can : (e : Event) → IsFine (is_event a) event_weight e → CanPushEvent r e
  unfolding event_weight
  event_can e h =
      let parts = (events_named a e).0 h.formed in
      let light = h.light in
      record { name = plain_name e.name parts.name; of = owner_can a r names e.of parts.of (omega arith) }

  stated_base : (o : Option Owner) → IsTrue (option_all (is_owner a) o) → optional owner_weight o ≤ 2 ^ 26 → CanBeBase r o
  stated_base None h k = tt
  stated_base (Some o) h k = owner_can a r names o h k

  base_can : (c : Class) → IsFineClass a c → CanBeBase r (base_of c)
  base_can c h = stated_base (base_of c) (its_head a c h).extends (base_light a c h)

  interfaces_can : (c : Class) → IsFineClass a c → AllByRecursion (IsOwnerWritable r) (class_interfaces c)
  interfaces_can c h = owners_can a r names (class_interfaces c) (its_head a c h).implements (interfaces_light a c h)

  interfaces_each : (row : ℕ) (classes : List Class) → AllByRecursion (IsFineClass a) classes → AllByRecursion (λ (t : ℕ × List Owner). AllByRecursion (IsOwnerWritable r) t.1) (interfaces_from row classes)
  interfaces_each row [] h = tt
  interfaces_each row (c ∷ classes) h = (interfaces_can c h.0, interfaces_each (row + 1) classes h.1)

  -- the bounds of a parameter with its row
  row_bounds : (g : ℕ × Generic) → AllByRecursion (IsOwnerWritable r) g.1.bounds → AllByRecursion (CanPushBound r) (bounds_in g)
  row_bounds (row, g) h = each_mapped (CanPushBound r) (λ (o : Owner). (row, o)) g.bounds h

-- ---- lists

module _ (a : Assembly) (classes : List Class) (are : AreClasses 0 2 a.types classes) (formed : IsTrue (is_well_formed a)) (light : weight_of a ≤ 2 ^ 26) where
  numbered_generics : AllByRecursion (λ g. IsNumbered a g.1) (generic_items a classes)
  numbered_generics =
      each_by_number (IsNumbered a) TypeOrMethodDef (generic_lists a classes) (longest_of (generic_lists a classes)) (
        (
          tt,
          each_mapped (AllByRecursion (IsNumbered a)) (λ c. enumerate_from 0 (class_generics c)) classes
              (each_from (IsFineClass a) (λ c. AllByRecursion (IsNumbered a) (enumerate_from 0 (class_generics c))) (λ c h. let few = its_generic_count a c h in numbered_few a 0 (class_generics c) (omega arith) (its_generics a c h))
              classes (fine_classes a classes are formed light)),
        ),
        (
          each_mapped (AllByRecursion (IsNumbered a)) (λ (m : Method). enumerate_from 0 m.generics) (all_methods a classes)
              (each_from (IsFine (is_method a) method_weight) (λ (m : Method). AllByRecursion (IsNumbered a) (enumerate_from 0 m.generics)) (λ m h. let few = method_generic_count a m h in numbered_few a 0 m.generics (omega arith) (method_generics a m h))
              (all_methods a classes) (fine_methods a classes are formed light)),
          tt,
        ),
      )

  fine_generics : AllByRecursion (IsFine (is_generic a) generic_weight) (generics_in a classes)
  fine_generics =
      each_mapped (IsFine (is_generic a) generic_weight) generic_of (generic_items a classes)
      (each_from (λ g. IsNumbered a g.1) (λ (g : ℕ × (ℕ × Generic)). IsFine (is_generic a) generic_weight g.1.1) (λ g h. h.1) (generic_items a classes) numbered_generics)

  abbrev Light : Constant → Type 0
  Light c = constant_weight c ≤ 2 ^ 26

  constants_light : AllByRecursion (λ c. Light c.1) (constant_items a classes)
  constants_light =
      each_by_number Light HasConstant (constant_lists a classes) (longest_of (constant_lists a classes)) (
        each_mapped (AllByRecursion Light) (λ (f : Field). stated_constant f.constant) (all_fields a classes)
            (each_from (IsFine (is_field a) field_weight) (λ (f : Field). AllByRecursion Light (stated_constant f.constant)) (field_constant a) (all_fields a classes) (fine_fields a classes are formed light)),
        (
          each_mapped (AllByRecursion Light) (λ (p : Param). stated_constant p.constant) (params_in a classes)
              (each_from (IsFine (is_param a) param_weight) (λ (p : Param). AllByRecursion Light (stated_constant p.constant)) (param_constant a) (params_in a classes) (fine_params a classes are formed light)),
          (
            each_mapped (AllByRecursion Light) (λ (p : Property). stated_constant p.constant) (properties_in classes)
                (each_from (IsFine (is_property a) property_weight) (λ (p : Property). AllByRecursion Light (stated_constant p.constant)) (property_constant a) (properties_in classes) (fine_properties a classes are formed light)),
            tt,
          ),
        ),
      )

  abbrev Fine : Attribute → Type 0
  Fine x = IsFine (is_attribute a) attribute_weight x

  -- the attributes of each item
  listed : {X : Type 0} (P : X → Type 0) (of : X → List Attribute) (xs : List X) → ((x : X) → P x → AllByRecursion Fine (of x)) → AllByRecursion P xs → AllByRecursion (AllByRecursion Fine) (map of xs)
  listed P of xs f h = each_mapped (AllByRecursion Fine) of xs (each_from P (λ x. AllByRecursion Fine (of x)) f xs h)

  manifest_attributes : AllByRecursion Fine a.manifest.module_attributes × AllByRecursion Fine a.manifest.attributes
  unfolding weight_of manifest_weight is_manifest
  manifest_attributes =
      let m = a.manifest in
      let parts = split_eight (is_name m.name) (has_no_zero m.culture) (is_name m.module) (is_image_base m.image_base) (is_file_alignment m.file_alignment) (are_cor_flags m.cor_flags)
      (list_all (is_attribute a) m.attributes) (list_all (is_attribute a) m.module_attributes) (whole a classes are formed light).manifest in
      (each_fine (is_attribute a) attribute_weight m.module_attributes parts.7 (omega arith), each_fine (is_attribute a) attribute_weight m.attributes parts.6 (omega arith))

  fine_attributes : AllByRecursion (λ x. Fine x.1) (attribute_items a classes)
  fine_attributes =
      each_by_number Fine HasCustomAttribute (attribute_lists a classes) (longest_of (attribute_lists a classes)) (
        listed (IsFine (is_method a) method_weight) (λ (m : Method). m.attributes) (all_methods a classes) (method_attributes a) (fine_methods a classes are formed light),
        (
          listed (IsFine (is_field a) field_weight) (λ (f : Field). f.attributes) (all_fields a classes) (field_attributes a) (fine_fields a classes are formed light),
          (
            (tt, listed (IsFineClass a) class_attributes classes (its_attributes a) (fine_classes a classes are formed light)),
            (
              listed (IsFine (is_param a) param_weight) (λ (p : Param). p.attributes) (params_in a classes) (param_attributes a) (fine_params a classes are formed light),
              (
                (manifest_attributes.0, tt),
                (
                  listed (IsFine (is_property a) property_weight) (λ (p : Property). p.attributes) (properties_in classes) (property_attributes a) (fine_properties a classes are formed light),
                  (
                    listed (IsFine (is_event a) event_weight) (λ (e : Event). e.attributes) (events_in classes) (event_attributes a) (fine_events a classes are formed light),
                    (
                      (manifest_attributes.1, tt),
                      (listed (IsFine (is_generic a) generic_weight) (λ (g : Generic). g.attributes) (generics_in a classes) (generic_attributes a) fine_generics, tt),
                    ),
                  ),
                ),
              ),
            ),
          ),
        ),
      )

  -- the texts of each method
  loaded_each : (P : Units → Type 0) → AllByRecursion P (texts a) → AllByRecursion (λ m. AllByRecursion P (method_texts m)) (all_methods a classes)
  unfolding texts
  loaded_each P h =
      let parts = each_apart P (flat_map method_texts a.methods) (flat_map typedef_texts a.types) h in
      each_joined (λ m. AllByRecursion P (method_texts m)) a.methods (flat_map class_methods classes) (each_unflat P method_texts a.methods parts.0)
      (each_flat (λ m. AllByRecursion P (method_texts m)) class_methods classes
      (each_from (λ (c : Class). AllByRecursion P (flat_map method_texts (class_methods c))) (λ (c : Class). AllByRecursion (λ m. AllByRecursion P (method_texts m)) (class_methods c)) (λ c t. each_unflat P method_texts (class_methods c) t)
      classes (texts_in P 0 2 a.types classes are parts.1)))

  few_externs : length a.externs + 1 < 2 ^ 24
  unfolding weight_of
  few_externs = let each = each_weighs extern_weight 64 extern_heavy a.externs in omega arith

-- ---- the whole

pub can_fill : FormedCanFill
can_fill a classes r formed light are declared externs loaded ranges =
    let names = name_can a classes r are declared (few_externs a classes are formed light) externs in
    let f = whole a classes are formed light in
    let fields = fine_fields a classes are formed light in
    let methods = fine_methods a classes are formed light in
    let own = fine_classes a classes are formed light in
    let numbered = numbered_generics a classes are formed light in
    record {
      manifest = plain_manifest a a.manifest f.manifest;
      externs = each_from (λ e. IsTrue (is_extern e)) IsPlainExtern plain_extern a.externs (each_true is_extern a.externs f.externs);
      bases = each_from (IsFineClass a) (λ c. CanBeBase r (base_of c)) (base_can a r names) classes own;
      interfaces = interfaces_each a r names 2 classes own;
      fields = each_from (IsFine (is_field a) field_weight) (IsFieldDeclarable r) (field_can a r names) (all_fields a classes) fields;
      methods = each_from (IsFine (is_method a) method_weight) (IsMethodDeclarable r) (method_can a r names) (all_methods a classes) methods;
      params = each_from (IsFine (is_param a) param_weight) IsPlainParam (λ p h. no_zero p.name (param_named a p h)) (params_in a classes) (fine_params a classes are formed light);
      properties = each_from (IsFine (is_property a) property_weight) (CanPushProperty r) (property_can a r names) (properties_in classes) (fine_properties a classes are formed light);
      events = each_from (IsFine (is_event a) event_weight) (CanPushEvent r) (event_can a r names) (events_in classes) (fine_events a classes are formed light);
      accessors = accessors_low a classes are light own;
      generics = each_from (λ g. IsNumbered a g.1) (CanPushGeneric r) (λ g h. record { name = generic_named a g.1.1 h.1; number = h.0 }) (generic_items a classes) numbered;
      bounds =
          each_flat (CanPushBound r) bounds_in (enumerate_from 1 (generics_in a classes))
          (each_from (λ (g : ℕ × Generic). AllByRecursion (IsOwnerWritable r) g.1.bounds) (λ g. AllByRecursion (CanPushBound r) (bounds_in g)) (row_bounds a r names) (enumerate_from 1 (generics_in a classes))
          (each_numbered (λ (g : Generic). AllByRecursion (IsOwnerWritable r) g.bounds) 1 (generics_in a classes)
          (each_from (IsFine (is_generic a) generic_weight) (λ (g : Generic). AllByRecursion (IsOwnerWritable r) g.bounds) (bounds_can a r names) (generics_in a classes) (fine_generics a classes are formed light))));
      constants = each_from (λ c. Light a classes are formed light c.1) (CanPushConstant r) (λ c h. value_short c.1 h) (constant_items a classes) (constants_light a classes are formed light);
      attributes = each_from (λ x. Fine a classes are formed light x.1) (CanPushAttribute r) (λ x h. attribute_can a r names x.1 h) (attribute_items a classes) (fine_attributes a classes are formed light);
      overrides = each_from (IsFine (is_method a) method_weight) (λ (m : Method). AllByRecursion (IsMethodRefWritable r) m.overrides) (overrides_can a r names) (all_methods a classes) methods;
      bodies =
          each_mapped (CanPushStated r) body_of (all_methods a classes)
          (each_from (λ m. IsFine (is_method a) method_weight m × (AllByRecursion (IsLoadable r.heaps.user) (method_texts m) × IsMethodInRange m)) (λ m. CanPushStated r (body_of m)) (λ m h. method_body_can a r names m h.0 h.1.0 h.1.1) (all_methods a classes)
          (each_both (IsFine (is_method a) method_weight) (λ m. AllByRecursion (IsLoadable r.heaps.user) (method_texts m) × IsMethodInRange m) (all_methods a classes) methods
          (each_both (λ m. AllByRecursion (IsLoadable r.heaps.user) (method_texts m)) IsMethodInRange (all_methods a classes) (loaded_each a classes are formed light (IsLoadable r.heaps.user) loaded) ranges)));
    }

pub accessors_have_rows : AccessorsHaveRows
accessors_have_rows a classes formed light are = accessors_there a classes (fine_classes a classes are formed light)
