-- Attributes are what their rows give.
use Rattle.std.proofs.Common.{◌≡◌, ap, refl, sym, ℕ, true≢false, List, Option, None, Some}
use Rattle.std.specs.Prelude.{IsTrue, is_none, slice_index}
use Rattle.std.specs.List.{AllByRecursion, list_all}
use Rattle.std.proofs.lemmas.Bool.{and_parts}
use Rattle.assembly_tree.specs.Weight.{attribute_weight, field_weight, method_weight, param_weight, property_weight, event_weight}
use Rattle.assembly_tree.specs.WellFormed.{is_image_base, is_file_alignment, are_cor_flags, is_manifest}
use Rattle.assembly_tree.specs.WellFormedMembers.{is_attribute, is_field, is_method, is_param, is_property, is_event}
use Rattle.assembly_tree.specs.WellFormedNames.{has_no_zero, is_name}
use Rattle.assembly_tree.specs.WellFormedTerms.{is_method_ref, is_plain_ref}
use Rattle.assembly_tree.specs.declared.assembly.Assembly.{Assembly}
use Rattle.assembly_tree.specs.declared.members.Attribute.{Attribute}
use Rattle.assembly_tree.specs.declared.members.Event.{Event}
use Rattle.assembly_tree.specs.declared.members.Field.{Field}
use Rattle.assembly_tree.specs.declared.members.Method.{Method}
use Rattle.assembly_tree.specs.declared.members.Param.{Param}
use Rattle.assembly_tree.specs.declared.members.Property.{Property}
use Rattle.body_codec.specs.Names.{NameMap}
use Rattle.metadata_tables.specs.declared.coded.Coded.TheVariants.{HasCustomAttribute}
use Rattle.pe_layout.specs.declared.parts.Kind.{Kind}
use Rattle.type_terms.specs.declared.reference.MethodRef.{MethodRef}
use Rattle.image_tokens.specs.declared.references.References.{References}
use Rattle.image_rows.specs.AttributeRows.{IsAttributeRow}
use Rattle.image_members.specs.Lists.{class_attributes, params_in, properties_in, events_in}
use Rattle.image_members.specs.Places.{all_fields, all_methods}
use Rattle.image_members.specs.Pushing.{Tables}
use Rattle.image_members.specs.declared.classes.Class.{Class}
use Rattle.image_model.specs.Columns.{attribute_parent, attribute_type, attribute_value}
use Rattle.image_model.specs.Reading.{IsAttribute, AttributesAre}
use Rattle.image_model.specs.Rows.{rows_with, index_of}
use Rattle.laws_image_parts.specs.AtRows.{AtEach}
use Rattle.laws_image_parts.specs.OwnedRows.{AttributesOf}
use Rattle.laws_image_parts.specs.RowCells.{attribute_cells}
use Rattle.laws_image_parts.proofs.PartLemmas.{blob_is}
use Rattle.laws_writable_trees.proofs.Each.{split_eight, each_from, each_true}
use Rattle.laws_writable_trees.proofs.Members.{IsFine}
use Rattle.laws_writable_trees.proofs.Parts.{IsFineClass, whole, fine_classes, fine_fields, fine_methods, fine_params, fine_properties, fine_events, its_attributes, field_attributes, method_attributes, param_attributes, property_attributes, event_attributes}
use Rattle.laws_image_reading.specs.parts.Attributes.{AttributesNamed}
use Rattle.laws_image_reading.specs.parts.Held.{IsHeld}
use Rattle.laws_image_reading.specs.parts.Known.{KnowsRows}
use Rattle.laws_image_reading.proofs.parts.Lists.{zip_with, each_with}
use Rattle.laws_image_reading.proofs.parts.Tokens.{IsReader, constructor_is}

pub no_args : {X : Type 0} (o : Option X) → IsTrue (is_none o) → o ≡ None
no_args None h = refl
no_args (Some x) h = absurd (true≢false (sym h))

pub plain_args : (a : Assembly) (m : MethodRef) → IsTrue (is_plain_ref a m) → m.args ≡ None
unfolding is_plain_ref
plain_args a m h = no_args m.args (and_parts (is_none m.args) (is_method_ref a m) h).0

-- ---- one row's

module _ (a : Assembly) (r : References) (image : List ℕ) (names : NameMap) (s : IsReader r image names) where
  abbrev Fine : Attribute → Type 0
  Fine x = IsFine (is_attribute a) attribute_weight x

  abbrev IsRow : ℕ → ℕ → Attribute → Type 0
  IsRow parent row x = IsAttributeRow r (attribute_cells image row) (parent, x)

  attribute_is : (parent row : ℕ) (x : Attribute) → IsTrue (is_attribute a x) → IsRow parent row x → IsAttribute image names row x
  unfolding is_attribute
  attribute_is parent row x formed h =
      let it = constructor_is r image names s x.constructor (attribute_type image row) h.token h.token_is (plain_args a x.constructor formed) (ap (λ (cs : List ℕ). slice_index cs 1) h.are) in
      record {
        table = it.0;
        constructor_row = it.1;
        coded = it.2;
        constructor = it.3;
        value = blob_is r image x.value h.value (attribute_value image row) s.heaps h.value_is (ap (λ (cs : List ℕ). slice_index cs 2) h.are);
      }

  pub attributes_formed : (table row : ℕ) (xs : List Attribute) → AllByRecursion (λ x. IsTrue (is_attribute a x)) xs → AttributesOf r image table row xs → AttributesAre image names table row xs
  attributes_formed table row xs all h =
      let parent = index_of HasCustomAttribute table row in
      zip_with (IsRow parent) (IsAttribute image names) (λ x. IsTrue (is_attribute a x)) (λ k x formed is. attribute_is parent k x formed is) (rows_with image 0x0C attribute_parent parent) xs all h

  pub attributes_are : (table row : ℕ) (xs : List Attribute) → AllByRecursion Fine xs → AttributesOf r image table row xs → AttributesAre image names table row xs
  attributes_are table row xs all h = attributes_formed table row xs (each_from Fine (λ x. IsTrue (is_attribute a x)) (λ x fine. fine.formed) xs all) h

  -- those of the rows of a table
  abbrev AreOf : {X : Type 0} → ℕ → (X → List Attribute) → ℕ → X → Type 0
  AreOf table of row x = AttributesOf r image table row (of x)

  abbrev Are : {X : Type 0} → ℕ → (X → List Attribute) → ℕ → X → Type 0
  Are table of row x = AttributesAre image names table row (of x)

  each_are : {X : Type 0} (table : ℕ) (of : X → List Attribute) (R : X → Type 0) → ((x : X) → R x → AllByRecursion Fine (of x)) → (first : ℕ) (xs : List X) → AllByRecursion R xs
      → AtEach (AreOf table of) first xs → AtEach (Are table of) first xs
  each_are table of R fine first xs all h =
      each_with (AreOf table of) (Are table of) R (λ row x known is. attributes_are table row (of x) (fine x known) is) first xs all h

-- ---- all of them

pub reader : (a : Assembly) (classes : List Class) (r : References) (tables : Tables) (code id : List ℕ) (kind : Kind) (image : List ℕ) (names : NameMap)
    → IsHeld a classes r tables code id kind image names → KnowsRows a classes r code image → IsReader r image names
reader a classes r tables code id kind image names held known = record { heaps = known.heaps; few = known.few; named = held.named; back = held.back }

manifest_formed : (a : Assembly) → IsTrue (is_manifest a a.manifest)
    → AllByRecursion (λ x. IsTrue (is_attribute a x)) a.manifest.module_attributes × AllByRecursion (λ x. IsTrue (is_attribute a x)) a.manifest.attributes
unfolding is_manifest
manifest_formed a h =
    let m = a.manifest in
    let parts = split_eight (is_name m.name) (has_no_zero m.culture) (is_name m.module) (is_image_base m.image_base) (is_file_alignment m.file_alignment) (are_cor_flags m.cor_flags)
    (list_all (is_attribute a) m.attributes) (list_all (is_attribute a) m.module_attributes) h in
    (each_true (is_attribute a) m.module_attributes parts.7, each_true (is_attribute a) m.attributes parts.6)

pub attributes_named : (a : Assembly) (classes : List Class) (r : References) (tables : Tables) (code id : List ℕ) (kind : Kind) (image : List ℕ) (names : NameMap)
    → IsHeld a classes r tables code id kind image names → KnowsRows a classes r code image → AttributesNamed a classes image names
attributes_named a classes r tables code id kind image names held known =
    let s = reader a classes r tables code id kind image names held known in
    let are = held.filled.classes_are in
    let formed = held.formed in
    let light = held.light in
    let of_manifest = manifest_formed a (whole a classes are formed light).manifest in
    record {
      methods = each_are a r image names s 0x06 (λ (m : Method). m.attributes) (IsFine (is_method a) method_weight) (method_attributes a) 1 (all_methods a classes) (fine_methods a classes are formed light) known.attributes.methods;
      fields = each_are a r image names s 0x04 (λ (f : Field). f.attributes) (IsFine (is_field a) field_weight) (field_attributes a) 1 (all_fields a classes) (fine_fields a classes are formed light) known.attributes.fields;
      types = each_are a r image names s 0x02 class_attributes (IsFineClass a) (its_attributes a) 2 classes (fine_classes a classes are formed light) known.attributes.types;
      params = each_are a r image names s 0x08 (λ (p : Param). p.attributes) (IsFine (is_param a) param_weight) (param_attributes a) 1 (params_in a classes) (fine_params a classes are formed light) known.attributes.params;
      module_row = attributes_formed a r image names s 0x00 1 a.manifest.module_attributes of_manifest.0 known.attributes.module_row;
      properties = each_are a r image names s 0x17 (λ (p : Property). p.attributes) (IsFine (is_property a) property_weight) (property_attributes a) 1 (properties_in classes) (fine_properties a classes are formed light) known.attributes.properties;
      events = each_are a r image names s 0x14 (λ (e : Event). e.attributes) (IsFine (is_event a) event_weight) (event_attributes a) 1 (events_in classes) (fine_events a classes are formed light) known.attributes.events;
      assembly_row = attributes_formed a r image names s 0x20 1 a.manifest.attributes of_manifest.1 known.attributes.assembly_row;
    }
