-- The values of types and members are as they must be.
use Rattle.std.proofs.Common.{◌≡◌, ◌≢◌, ap, refl, sym, ◌∙◌, subst, ℕ, suc, ◌+◌, ◌^◌, ◌≤◌, ◌==◌, ◌||◌, not, List, Contains, length, Some, inl, inr, arith}
use Rattle.std.specs.Prelude.{IsTrue, slice_get, slice_index}
use Rattle.std.specs.List.{AllByRecursion, list_all}
use Rattle.metadata_tables.specs.CodedIndex.{tag_of}
use Rattle.metadata_tables.specs.declared.coded.Coded.TheVariants.{MethodDefOrRef, TypeDefOrRef}
use Rattle.assembly_tree.specs.DataSize.{size_in_data}
use Rattle.assembly_tree.specs.Weight.{param_weight, weight_of}
use Rattle.assembly_tree.specs.WellFormed.{is_well_formed}
use Rattle.assembly_tree.specs.WellFormedMembers.{is_attribute, is_clear, is_constant, is_param}
use Rattle.assembly_tree.specs.WellFormedNames.{has_no_zero, option_all}
use Rattle.assembly_tree.specs.declared.assembly.Assembly.{Assembly}
use Rattle.assembly_tree.specs.declared.members.Param.{Param}
use Rattle.assembly_tree.specs.declared.typedef.TypeDef.TheViews.{out-TypeDef}
use Rattle.assembly_tree.proofs.FormedFacts.{fields_named, properties_named}
use Rattle.body_codec.specs.Back.{NamesBack}
use Rattle.body_codec.specs.Names.{NameMap}
use Rattle.pe_layout.specs.FileMap.{StandsAt}
use Rattle.type_terms.specs.declared.reference.MethodSig.{MethodSig}
use Rattle.image_tokens.specs.Indexes.{index_of, index_of_token}
use Rattle.image_tokens.specs.declared.references.References.{References}
use Rattle.image_members.specs.CodeBytes.{all_tokens}
use Rattle.image_members.specs.Declaring.{class_place}
use Rattle.image_members.specs.Lists.{class_generics, access_from, event_access, property_access, events_in, params_in, properties_in}
use Rattle.image_rows.specs.OverrideRows.{overrides_from}
use Rattle.image_members.specs.Places.{all_fields, all_methods}
use Rattle.image_members.specs.Pushing.{Tables}
use Rattle.image_members.specs.declared.classes.Class.{Class}
use Rattle.image_model.specs.Columns.{event_type, override_body, override_class}
use Rattle.image_model.specs.Faults.{Holds, values}
use Rattle.image_model.specs.Members.{HasGenerics, HasLayout, HasFieldValues, HasConstants, HasKinds, FitsSignature, FitsInstance, OverridesInClass, event_kinds, property_kinds}
use Rattle.image_model.specs.Namings.{AreNamings}
use Rattle.image_model.specs.Rows.{HasRow, Names, count_of, methods_of}
use Rattle.image_model.specs.Terms.{MethodHas}
use Rattle.laws_image_parts.specs.AtRows.{AtEach}
use Rattle.laws_image_parts.specs.CodeRead.{CodeIsRead}
use Rattle.laws_image_parts.specs.ConstantsRead.{ConstantsAreRead}
use Rattle.laws_image_parts.specs.ItemRows.{LayoutOf, FieldItemsRead, TypeItemsRead, ItemsAreRead}
use Rattle.laws_image_parts.specs.OwnedRows.{AccessorsRead, ConstantsRead, GenericsRead, OwnedAreRead}
use Rattle.laws_image_parts.specs.RowsRead.{ReadsRows}
use Rattle.laws_image_parts.specs.RunsRead.{RunsRead}
use Rattle.laws_image_parts.proofs.CellLemmas.{get_low}
use Rattle.laws_image_parts.proofs.IndexLemmas.{index_names}
use Rattle.laws_image_parts.proofs.MethodRuns.{methods_count}
use Rattle.laws_image_parts.proofs.OwnedLemmas.{get_map}
use Rattle.laws_image_parts.specs.names.MemberOwners.{MembersOwned}
use Rattle.laws_image_parts.specs.names.Paths.{HasPlace}
use Rattle.laws_image_parts.specs.names.Written.{IsWritten}
use Rattle.laws_image_parts.proofs.names.General.{all_get}
use Rattle.laws_image_parts.specs.namings.Readable.{IsReadable}
use Rattle.laws_image_parts.proofs.namings.MembersRead.{BelowSays}
use Rattle.laws_writable_trees.proofs.Each.{split_five}
use Rattle.laws_writable_trees.proofs.Members.{IsFine}
use Rattle.laws_writable_trees.proofs.Parts.{IsFineClass, fine_classes, fine_params, its_generic_count, its_head, method_generic_count}
use Rattle.laws_image_reading.specs.members.Bounded.{AreBounded}
use Rattle.laws_image_reading.proofs.members.AccessorDemands.{IsOf, event_access_kinds, property_access_kinds, event_access_long, property_access_long, kinds_fit, type_index_some}
use Rattle.laws_image_reading.proofs.members.ConstantDemands.{constants_fit}
use Rattle.laws_image_reading.proofs.members.DataSizes.{has_size}
use Rattle.laws_image_reading.proofs.members.FieldDemands.{data_fits, one_content, one_offset}
use Rattle.laws_image_reading.proofs.members.InstanceDemands.{instance_fits}
use Rattle.laws_image_reading.proofs.members.Items.{by_item, used_row}
use Rattle.laws_image_reading.proofs.members.MethodDemands.{signature_fits}
use Rattle.laws_image_reading.proofs.members.SignatureDemands.{override_is}
use Rattle.laws_image_reading.proofs.members.Signatures.{AllReread, fine_field, fine_method, fine_property, field_has, method_has, instance_has}
use Rattle.laws_image_reading.proofs.members.TypeDemands.{type_row, generics_fit, module_generics, layout_fits, no_layout_fits}
use Rattle.laws_image_reading.proofs.members.TypePlaces.{IsRowOf}

-- what the laws of crates below say, besides those on what tokens name
pub record RowsSay : Type 0 where
  pub reread : AllReread
  pub items : ItemsAreRead
  pub owned : OwnedAreRead
  pub constants : ConstantsAreRead
  pub content : CodeIsRead

module _ (say : RowsSay) (below : BelowSays) (a : Assembly) (classes : List Class) (r : References) (tables : Tables) (code image : List ℕ) (w : IsWritten a classes r tables code image)
    (stands : StandsAt image 0x2050 code) (formed : IsTrue (is_well_formed a)) (light : weight_of a ≤ 2 ^ 26) (readable : IsReadable r) (bounded : AreBounded r)
    (names : NameMap) (namings : AreNamings image names) (back : NamesBack (all_tokens r) names) where
  rows : ReadsRows a classes r code image
  rows = below.rows a classes r tables code image w.filled w.reads

  runs : RunsRead a classes r code image
  runs = below.runs a classes r code image rows

  own : MembersOwned image
  own = below.owned a classes r tables code image w

  methods_are : count_of image 0x06 ≡ length (all_methods a classes)
  methods_are = methods_count below.law a classes r code image rows.methods

  -- ---- types

  each_class : AllByRecursion (IsFineClass a) classes
  each_class = fine_classes a classes w.filled.classes_are formed light

  fine_class : (k : ℕ) (c : Class) → slice_get classes k ≡ Some c → IsFineClass a c
  fine_class k c at = all_get (IsFineClass a) classes k c each_class at

  type_items : TypeItemsRead classes r image
  type_items = say.items.types a classes r image rows.types

  generics : GenericsRead a classes r image
  generics = say.owned.generics a classes r image rows.owned

  type_generics_meet : (row : ℕ) → HasRow image 0x02 row → HasGenerics image 0x02 row
  type_generics_meet row there = elim (type_row image classes row rows.types.types.count there) [
    | inl e ↦ subst (HasGenerics image 0x02) (sym e) (module_generics a classes r image rows.owned)
    | inr f ↦
        subst (HasGenerics image 0x02) f.3
        (generics_fit a classes r image 0x02 (2 + f.0) (class_generics f.1) (generics.types f.0 f.1 f.2) (its_generic_count a f.1 (fine_class f.0 f.1 f.2)))
  ]

  layouts_meet : (row : ℕ) → HasRow image 0x02 row → HasLayout image row
  layouts_meet row there = elim (type_row image classes row rows.types.types.count there) [
    | inl e ↦ subst (HasLayout image) (sym e) (no_layout_fits image type_items.no_layout)
    | inr f ↦
        subst (HasLayout image) f.3
        (layout_fits image f.0 (out-TypeDef f.1.of.now).layout (type_items.layouts f.0 f.1 f.2) (its_head a f.1 (fine_class f.0 f.1 f.2)).layout)
  ]

  -- ---- fields

  abbrev Laid : ℕ → Class → Type 0
  Laid type c = LayoutOf image type (out-TypeDef c.of.now).layout

  class_rows : AtEach (IsRowOf image Laid) 2 classes
  class_rows k c at =
      let place : HasPlace image (2 + k) (class_place c) =
      (let next : 1 + suc k ≡ 2 + k = omega arith in
      subst (λ n. HasPlace image n (class_place c)) next
      ((below.paths a classes r tables code image w).places_are (suc k) (class_place c) (get_map class_place classes k c at))) in
      let low = get_low classes k c at in
      let count = rows.types.types.count in
      record { there = (omega arith, omega arith); place = place; also = type_items.layouts k c at }

  constants : ConstantsRead a classes r image
  constants = say.owned.constants a classes r image rows.owned

  field_items : FieldItemsRead a classes code image
  field_items = say.items.fields a classes r code image rows.fields

  fields_meet : (row : ℕ) → HasRow image 0x04 row → HasFieldValues image names row
  fields_meet row there =
      by_item image (HasFieldValues image names) 0x04 row (all_fields a classes) rows.fields.fields.count there
      (λ k f at.
      let parts = (fields_named a f).0 (fine_field say.reread a classes r tables code image w rows names back.owners runs formed light k f at).formed in
      record {
        constants = constants_fit say.constants r image 0x04 (1 + k) f.constant w.heaps (constants.fields k f at) parts.constant;
        offset = one_offset image (1 + k) f.offset (field_items.offsets k f at);
        one_data = one_content code image (1 + k) f.content (field_items.contents k f at);
        data_there = data_fits say.content code image names stands (1 + k) f.of (size_in_data a f.of)
            (field_has say.reread a classes r tables code image w rows names back.owners runs formed light k f at)
            (has_size image a classes w.filled.classes_are class_rows f.of) f.content parts.content (field_items.contents k f at);
      })

  -- ---- methods

  method_generics_meet : (row : ℕ) → HasRow image 0x06 row → HasGenerics image 0x06 row
  method_generics_meet row there =
      by_item image (HasGenerics image 0x06) 0x06 row (all_methods a classes) methods_are there
      (λ k m at. generics_fit a classes r image 0x06 (1 + k) m.generics (generics.methods k m at)
      (method_generic_count a m (fine_method say.reread a classes r tables code image w rows names back.owners runs formed light k m at)))

  methods_meet : (row : ℕ) → HasRow image 0x06 row → (sig : MethodSig) × MethodHas image names row sig × FitsSignature image row sig
  methods_meet row there =
      by_item image (λ n. (sig : MethodSig) × MethodHas image names n sig × FitsSignature image n sig) 0x06 row (all_methods a classes) methods_are there
      (λ k m at. (
        m.sig,
        method_has say.reread a classes r tables code image w rows names back.owners runs formed light k m at,
        signature_fits a classes r image rows.methods.params (1 + k) m (fine_method say.reread a classes r tables code image w rows names back.owners runs formed light k m at) (generics.methods k m at)
            (runs.params k m at),
      ))

  param_constant : (p : Param) → IsFine (is_param a) param_weight p → IsTrue (option_all is_constant p.constant)
  unfolding is_param
  param_constant p h =
      (split_five (has_no_zero p.name) (not (p.number == 0) || (length p.name == 0)) (is_clear 0x1000 p.flags) (option_all is_constant p.constant) (list_all (is_attribute a) p.attributes) h.formed).3

  params_meet : (row : ℕ) → HasRow image 0x08 row → HasConstants image 0x08 row
  params_meet row there =
      by_item image (HasConstants image 0x08) 0x08 row (params_in a classes) rows.methods.params.count there
      (λ k p at. constants_fit say.constants r image 0x08 (1 + k) p.constant w.heaps (constants.params k p at)
      (param_constant p (all_get (IsFine (is_param a) param_weight) (params_in a classes) k p (fine_params a classes w.filled.classes_are formed light) at)))

  overrides_meet : (row : ℕ) → HasRow image 0x19 row → OverridesInClass image row
  unfolding tag_of
  overrides_meet row there =
      by_item image (OverridesInClass image) 0x19 row (overrides_from 1 r.declared.methods (all_methods a classes)) rows.methods.overrides.count there
      (λ k o at.
      let is = override_is say.reread below.law a classes r tables code image w rows runs own formed light readable bounded names namings back k o at in
      let cells = rows.methods.overrides.each k o at in
      let class : override_class image (1 + k) ≡ o.type = ap (λ (cs : List ℕ). slice_index cs 0) cells.are in
      let body : override_body image (1 + k) ≡ index_of MethodDefOrRef 0x06 o.body = ap (λ (cs : List ℕ). slice_index cs 1) cells.are in (
        o.body,
        subst (λ v. Names MethodDefOrRef v 0x06 o.body) (sym body) (index_names MethodDefOrRef 0x06 o.body 0 refl),
        subst (λ t. Contains (methods_of image t) o.body) (sym class) is.within,
      ))

  instances_meet : (row : ℕ) → HasRow image 0x2B row → FitsInstance image names row
  instances_meet row there =
      by_item image (FitsInstance image names) 0x2B row r.referred.instances rows.references.instances.count there
      (λ k cells at. instance_fits below a classes r tables code image w readable.members names namings back k cells (bounded.instances k cells at) at
      (instance_has say.reread a classes r tables code image w rows names back.owners readable bounded k cells at))

  -- ---- properties and events

  accessors : AccessorsRead a classes image
  accessors = say.owned.accessors a classes r image rows.properties

  properties_meet : (row : ℕ) → HasRow image 0x17 row → HasConstants image 0x17 row
  properties_meet row there =
      by_item image (HasConstants image 0x17) 0x17 row (properties_in classes) rows.properties.properties.count there
      (λ k p at. constants_fit say.constants r image 0x17 (1 + k) p.constant w.heaps (constants.properties k p at)
      ((properties_named a p).0 (fine_property say.reread a classes r tables code image w rows names back.owners runs formed light k p at).formed).constant)

  property_kinds_meet : (row : ℕ) → HasRow image 0x17 row → HasKinds image property_kinds 0x17 row
  property_kinds_meet row there =
      let first = 1 + length a.methods in
      by_item image (HasKinds image property_kinds 0x17) 0x17 row (access_from property_access first classes)
      (rows.properties.properties.count ∙ sym (property_access_long first classes)) there
      (λ k xs at. kinds_fit property_kinds image 0x17 (1 + k) xs (accessors.properties k xs at)
      (all_get (AllByRecursion (IsOf property_kinds)) (access_from property_access first classes) k xs (property_access_kinds a first classes each_class) at))

  event_kinds_meet : (row : ℕ) → HasRow image 0x14 row → HasKinds image event_kinds 0x14 row
  event_kinds_meet row there =
      let first = 1 + length a.methods in
      by_item image (HasKinds image event_kinds 0x14) 0x14 row (access_from event_access first classes)
      (rows.properties.events.count ∙ sym (event_access_long first classes)) there
      (λ k xs at. kinds_fit event_kinds image 0x14 (1 + k) xs (accessors.events k xs at)
      (all_get (AllByRecursion (IsOf event_kinds)) (access_from event_access first classes) k xs (event_access_kinds a first classes each_class) at))

  events_meet : (row : ℕ) → HasRow image 0x14 row → event_type image row ≢ 0
  events_meet row there =
      by_item image (λ n. event_type image n ≢ 0) 0x14 row (events_in classes) rows.properties.events.count there
      (λ k e at none.
      let is = rows.properties.events.each k e at in
      let type : event_type image (1 + k) ≡ index_of_token TypeDefOrRef is.type_is.0 = ap (λ (cs : List ℕ). slice_index cs 2) is.are ∙ is.type_is.2 in
      type_index_some image names.owners is.type_is.0 e.of ((namings.owners is.type_is.0 e.of).0 (back.owners e.of is.type_is.0 is.type_is.1)) (sym type ∙ none))

  -- ---- all

  pub values_held : Holds image names values
  values_held table row = record {
    type_generics = λ is there. type_generics_meet row there;
    layout = λ is there. layouts_meet row there;
    field = λ is there. fields_meet row there;
    method_generics = λ is there. method_generics_meet row there;
    method = λ is there. methods_meet row there;
    param = λ is there. params_meet row there;
    event_of = λ is there. events_meet row there;
    event_kinds_are = λ is there. event_kinds_meet row there;
    property = λ is there. properties_meet row there;
    property_kinds_are = λ is there. property_kinds_meet row there;
    override = λ is there. overrides_meet row there;
    instance = λ is used. instances_meet row (used_row used);
  }
