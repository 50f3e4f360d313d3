-- What a well-formed assembly gives of each of its types, of its members and of all its attributes.
use Rattle.std.proofs.Common.{◌≡◌, refl, sym, ◌∙◌, subst, ℕ, ◌+◌, ◌^◌, ◌≤◌, Bool, true, false, true≢false, List, map, length, arith}
use Rattle.std.specs.Prelude.{IsTrue}
use Rattle.std.specs.List.{AllByRecursion, enumerate_from, list_all}
use Rattle.assembly_tree.specs.Weight.{attribute_weight, generic_weight, field_weight, method_weight, param_weight, property_weight, event_weight, weight_of}
use Rattle.assembly_tree.specs.WellFormed.{is_image_base, is_file_alignment, are_cor_flags, is_manifest, is_well_formed}
use Rattle.assembly_tree.specs.WellFormedFacts.{FormedHead, FormedType}
use Rattle.assembly_tree.specs.WellFormedMembers.{is_attribute, is_generic, is_field, is_method, is_param, is_property, is_event}
use Rattle.assembly_tree.specs.WellFormedNames.{has_no_zero, is_name}
use Rattle.assembly_tree.specs.WellFormedTypes.{is_own, are_types}
use Rattle.assembly_tree.specs.declared.assembly.Assembly.{Assembly}
use Rattle.assembly_tree.specs.declared.members.Attribute.{Attribute}
use Rattle.assembly_tree.specs.declared.members.Event.{Event}
use Rattle.assembly_tree.specs.declared.members.Field.{Field}
use Rattle.assembly_tree.specs.declared.members.Generic.{Generic}
use Rattle.assembly_tree.specs.declared.members.Method.{Method}
use Rattle.assembly_tree.specs.declared.members.Param.{Param}
use Rattle.assembly_tree.specs.declared.members.Property.{Property}
use Rattle.assembly_tree.specs.declared.typedef.TypeDef.{TypeDef}
use Rattle.assembly_tree.specs.declared.typedef.TypeDef.TheViews.{out-TypeDef}
use Rattle.assembly_tree.proofs.FormedFacts.{heads_named, types_named, fields_named, methods_named, properties_named}
use Rattle.metadata_tables.specs.declared.coded.Coded.TheVariants.{HasCustomAttribute, TypeOrMethodDef}
use Rattle.image_members.specs.Classes.{AreClasses, none, more}
use Rattle.image_members.specs.GenericRows.{generic_of}
use Rattle.image_members.specs.Lists.{longest_of, class_attributes, class_generics, generic_items, generic_lists, generics_in, attribute_items, attribute_lists, params_in, properties_in, events_in}
use Rattle.image_members.specs.Places.{all_fields, all_methods}
use Rattle.image_members.specs.declared.classes.Class.{Class}
use Rattle.laws_writable_trees.proofs.Classes.{first_of_types}
use Rattle.laws_writable_trees.proofs.Each.{each_by_number, each_from, each_joined, each_mapped, each_numbered, each_true, split_eight}
use Rattle.laws_writable_trees.proofs.Members.{IsFine}
use Rattle.laws_writable_trees.proofs.Parts.{IsFineClass, whole, fine_classes, fine_fields, fine_methods, fine_params, fine_properties, fine_events, its_attributes, its_generics, field_attributes, method_attributes, method_generics, param_attributes, property_attributes, event_attributes, generic_attributes}
use Rattle.laws_image_reading.proofs.kinds.Nodes.{TypeTaken, SignatureTaken, type_taken, signature_taken}

-- ---- types

-- a type meets its conditions; at the top no other encloses it
pub record IsFormedClass (a : Assembly) (c : Class) : Type 0 where
  pub top : Bool
  pub own : IsTrue (is_own a top (out-TypeDef c.of.now))
  pub at_top : top ≡ true → c.encloser ≡ 0

formed_from : (a : Assembly) (top : Bool) (depth encloser row : ℕ) (types : List TypeDef) (classes : List Class) → AreClasses encloser row types classes
    → (top ≡ true → encloser ≡ 0) → IsTrue (are_types a top depth types) → AllByRecursion (IsFormedClass a) classes
formed_from a top depth encloser row types classes (none e f) outer h = subst (AllByRecursion (IsFormedClass a)) (sym f) tt
formed_from a top depth encloser row types classes (more {type = type} {beside = beside} {class = class} {nested = nested} {others = others} of in_it inner side e f) outer h =
    let first = first_of_types a top depth type beside (subst (λ (ts : List TypeDef). IsTrue (are_types a top depth ts)) e h) in
    let own : IsFormedClass a class = record {
      top = top;
      own = subst (λ (t : TypeDef). IsTrue (is_own a top (out-TypeDef t))) (sym of) first.own;
      at_top = λ is. in_it ∙ outer is;
    } in
    let its = formed_from a false first.below row (row + 1) (out-TypeDef type).nested nested inner (λ is. absurd (true≢false (sym is))) first.nested in
    let rest = formed_from a top depth encloser (row + 1 + length nested) beside others side outer first.others in
    subst (AllByRecursion (IsFormedClass a)) (sym f) (own, each_joined (IsFormedClass a) nested others its rest)

module _ (a : Assembly) (c : Class) (h : IsFormedClass a c) where
  pub type_formed : FormedType a h.top (out-TypeDef c.of.now)
  type_formed = (types_named a h.top (out-TypeDef c.of.now)).0 h.own

  pub head_formed : FormedHead a h.top (out-TypeDef c.of.now)
  head_formed = (heads_named a h.top (out-TypeDef c.of.now)).0 type_formed.head

module _ (a : Assembly) (classes : List Class) (are : AreClasses 0 2 a.types classes) (formed : IsTrue (is_well_formed a)) (light : weight_of a ≤ 2 ^ 26) where
  pub formed_classes : AllByRecursion (IsFormedClass a) classes
  formed_classes = formed_from a true 100 0 2 a.types classes are (λ is. refl) (whole a classes are formed light).classes

  -- ---- members

  pub formed_methods : AllByRecursion (λ m. IsTrue (is_method a m)) (all_methods a classes)
  formed_methods = each_from (IsFine (is_method a) method_weight) (λ m. IsTrue (is_method a m)) (λ m h. h.formed) (all_methods a classes) (fine_methods a classes are formed light)

  field_taken : (f : Field) → IsFine (is_field a) field_weight f → TypeTaken f.of
  unfolding field_weight
  field_taken f h = let heavy = h.light in type_taken a f.of ((fields_named a f).0 h.formed).of (omega arith)

  method_taken : (m : Method) → IsFine (is_method a) method_weight m → SignatureTaken m.sig
  unfolding method_weight
  method_taken m h = let heavy = h.light in signature_taken a m.sig ((methods_named a m).0 h.formed).sig (omega arith)

  property_taken : (p : Property) → IsFine (is_property a) property_weight p → SignatureTaken p.sig
  unfolding property_weight
  property_taken p h = let heavy = h.light in signature_taken a p.sig ((properties_named a p).0 h.formed).sig (omega arith)

  pub fields_taken : AllByRecursion (λ (f : Field). TypeTaken f.of) (all_fields a classes)
  fields_taken = each_from (IsFine (is_field a) field_weight) (λ (f : Field). TypeTaken f.of) field_taken (all_fields a classes) (fine_fields a classes are formed light)

  pub methods_taken : AllByRecursion (λ (m : Method). SignatureTaken m.sig) (all_methods a classes)
  methods_taken = each_from (IsFine (is_method a) method_weight) (λ (m : Method). SignatureTaken m.sig) method_taken (all_methods a classes) (fine_methods a classes are formed light)

  pub properties_taken : AllByRecursion (λ (p : Property). SignatureTaken p.sig) (properties_in classes)
  properties_taken =
      each_from (IsFine (is_property a) property_weight) (λ (p : Property). SignatureTaken p.sig) property_taken (properties_in classes) (fine_properties a classes are formed light)

  -- ---- attributes

  abbrev FineAttribute : Attribute → Type 0
  FineAttribute x = IsFine (is_attribute a) attribute_weight x

  abbrev Formed : Attribute → Type 0
  Formed x = IsTrue (is_attribute a x)

  abbrev FineGeneric : Generic → Type 0
  FineGeneric g = IsFine (is_generic a) generic_weight g

  -- the attributes of each item
  listed : {X : Type 0} (P : X → Type 0) (of : X → List Attribute) (xs : List X) → ((x : X) → P x → AllByRecursion FineAttribute (of x)) → AllByRecursion P xs
      → AllByRecursion (AllByRecursion Formed) (map of xs)
  listed P of xs f h =
      each_mapped (AllByRecursion Formed) of xs
      (each_from P (λ x. AllByRecursion Formed (of x)) (λ x p. each_from FineAttribute Formed (λ y fine. fine.formed) (of x) (f x p)) xs h)

  fine_generics : AllByRecursion FineGeneric (generics_in a classes)
  fine_generics =
      each_mapped FineGeneric generic_of (generic_items a classes)
      (each_by_number (λ (g : ℕ × Generic). FineGeneric g.1) TypeOrMethodDef (generic_lists a classes) (longest_of (generic_lists a classes)) (
        (
          tt,
          each_mapped (AllByRecursion (λ (g : ℕ × Generic). FineGeneric g.1)) (λ c. enumerate_from 0 (class_generics c)) classes
              (each_from (IsFineClass a) (λ c. AllByRecursion (λ (g : ℕ × Generic). FineGeneric g.1) (enumerate_from 0 (class_generics c)))
              (λ c h. each_numbered FineGeneric 0 (class_generics c) (its_generics a c h)) classes (fine_classes a classes are formed light)),
        ),
        (
          each_mapped (AllByRecursion (λ (g : ℕ × Generic). FineGeneric g.1)) (λ (m : Method). enumerate_from 0 m.generics) (all_methods a classes)
              (each_from (IsFine (is_method a) method_weight) (λ (m : Method). AllByRecursion (λ (g : ℕ × Generic). FineGeneric g.1) (enumerate_from 0 m.generics))
              (λ m h. each_numbered FineGeneric 0 m.generics (method_generics a m h)) (all_methods a classes) (fine_methods a classes are formed light)),
          tt,
        ),
      ))

  manifest_attributes : AllByRecursion Formed a.manifest.module_attributes × AllByRecursion Formed a.manifest.attributes
  unfolding is_manifest
  manifest_attributes =
      let m = a.manifest in
      let parts = split_eight (is_name m.name) (has_no_zero m.culture) (is_name m.module) (is_image_base m.image_base) (is_file_alignment m.file_alignment) (are_cor_flags m.cor_flags)
      (list_all (is_attribute a) m.attributes) (list_all (is_attribute a) m.module_attributes) (whole a classes are formed light).manifest in
      (each_true (is_attribute a) m.module_attributes parts.7, each_true (is_attribute a) m.attributes parts.6)

  pub formed_attributes : AllByRecursion (λ x. IsTrue (is_attribute a x.1)) (attribute_items a classes)
  formed_attributes =
      each_by_number Formed HasCustomAttribute (attribute_lists a classes) (longest_of (attribute_lists a classes)) (
        listed (IsFine (is_method a) method_weight) (λ (m : Method). m.attributes) (all_methods a classes) (method_attributes a) (fine_methods a classes are formed light),
        (
          listed (IsFine (is_field a) field_weight) (λ (f : Field). f.attributes) (all_fields a classes) (field_attributes a) (fine_fields a classes are formed light),
          (
            (tt, listed (IsFineClass a) class_attributes classes (its_attributes a) (fine_classes a classes are formed light)),
            (
              listed (IsFine (is_param a) param_weight) (λ (p : Param). p.attributes) (params_in a classes) (param_attributes a) (fine_params a classes are formed light),
              (
                (manifest_attributes.0, tt),
                (
                  listed (IsFine (is_property a) property_weight) (λ (p : Property). p.attributes) (properties_in classes) (property_attributes a) (fine_properties a classes are formed light),
                  (
                    listed (IsFine (is_event a) event_weight) (λ (e : Event). e.attributes) (events_in classes) (event_attributes a) (fine_events a classes are formed light),
                    (
                      (manifest_attributes.1, tt),
                      (listed FineGeneric (λ (g : Generic). g.attributes) (generics_in a classes) (generic_attributes a) fine_generics, tt),
                    ),
                  ),
                ),
              ),
            ),
          ),
        ),
      )
