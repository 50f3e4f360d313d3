-- Tables whose rows belong to those of others.
use Rattle.std.proofs.Common.{◌≡◌, ◌⊎◌, inl, inr, refl, sym, ◌∙◌, ap, subst, ℕ, zero, suc, ◌+◌, ◌-◌, ◌^◌, ◌<◌, ◌≤◌, Bool, true, false, cond, List, [], ◌∷◌, ◌++◌, map, length, Option, Some, None, arith}
use Rattle.std.specs.Prelude.{◌==◌}
use Rattle.std.specs.List.{AllByRecursion, AllZip, flat_map, enumerate_from}
use Rattle.std.proofs.lemmas.Bool.{cases_Bool}
use Rattle.std.proofs.lemmas.List.{length-append, length-map}
use Rattle.std.proofs.lemmas.List.Concat.{flat_map-cons}
use Rattle.assembly_tree.specs.declared.assembly.Assembly.{Assembly}
use Rattle.assembly_tree.specs.declared.members.Attribute.{Attribute}
use Rattle.assembly_tree.specs.declared.members.Constant.{Constant}
use Rattle.assembly_tree.specs.declared.members.Event.{Event}
use Rattle.assembly_tree.specs.declared.members.Field.{Field}
use Rattle.assembly_tree.specs.declared.members.Generic.{Generic}
use Rattle.assembly_tree.specs.declared.members.Method.{Method}
use Rattle.assembly_tree.specs.declared.members.Param.{Param}
use Rattle.assembly_tree.specs.declared.members.Property.{Property}
use Rattle.assembly_tree.specs.declared.typedef.Layout.{Layout}
use Rattle.assembly_tree.specs.declared.typedef.TypeDef.{TypeDef}
use Rattle.assembly_tree.specs.declared.typedef.TypeDef.TheViews.{out-TypeDef}
use Rattle.metadata_tables.specs.Encoding.{rows_of, rows_in}
use Rattle.metadata_tables.specs.Indexes.{run_cell}
use Rattle.metadata_tables.specs.Schema.{schema, columns_of}
use Rattle.metadata_tables.specs.declared.coded.Coded.TheVariants.{TypeDefOrRef, HasConstant, HasCustomAttribute, CustomAttributeType, HasSemantics, MethodDefOrRef, TypeOrMethodDef}
use Rattle.type_terms.specs.declared.reference.MethodRef.{MethodRef}
use Rattle.type_terms.specs.declared.term.Owner.{Owner}
use Rattle.laws_image_indexes.specs.Laws.{AccessorsAreMethods, HasOwnedIndexes}
use Rattle.laws_image_indexes.proofs.EachLemmas.{each_weaker, each_both, each_joined, each_mapped, each_all, each_flat, each_numbered, each_permuted, by_number_leads}
use Rattle.laws_image_indexes.proofs.EntryLemmas.{text_in, blob_in}
use Rattle.laws_image_indexes.proofs.PlainTables.{type_in, begins, counted, classes_count, fields_count, params_count, methods_count}
use Rattle.laws_image_indexes.proofs.TableLemmas.{zip_all, zip_known, zip_long, leads}
use Rattle.laws_image_indexes.proofs.TokenLemmas.{Leads, Counted, token_index, row_index, method_there}
use Rattle.image_layout.specs.Indexes.{BeginsRun, AreIndexesIn}
use Rattle.image_tokens.specs.Indexes.{index_of}
use Rattle.image_tokens.specs.References.{AreKnown}
use Rattle.image_tokens.specs.declared.references.References.{References}
use Rattle.image_tokens.specs.declared.row_set.Cells.{Cells}
use Rattle.image_rows.specs.AttributeRows.{IsAttributeRow}
use Rattle.image_rows.specs.ClassRows.{class_rows, encloser_rows, nested_rows, stated_rows, layout_rows}
use Rattle.image_members.specs.Classes.{AreClasses, none, more}
use Rattle.image_members.specs.ConstantRows.{IsConstantRow, stated_constant}
use Rattle.image_members.specs.DataRows.{Datum, stated_data, field_data, all_data, IsDataRow}
use Rattle.image_members.specs.DeclaredMembers.{owned, class_methods, IsMethodOf}
use Rattle.image_rows.specs.EventRows.{IsEventRow}
use Rattle.image_rows.specs.FieldRows.{stated_offset, offset_rows}
use Rattle.image_rows.specs.Filled.{IsFilled}
use Rattle.image_members.specs.GenericRows.{bounds_with, bounds_in, bounds_from, IsBoundRow, IsGenericRow}
use Rattle.image_rows.specs.InterfaceRows.{class_interfaces, interfaces_from, AreIndexes, AreInterfaceRows, joined}
use Rattle.image_members.specs.Lists.{access_of, params_in, properties_in, events_in, class_generics, class_attributes, generic_lists, generic_items, generics_in, attribute_lists, attribute_items, constant_lists, constant_items, accessor_lists, accessor_items, event_access, property_access, access_from, longest_of}
use Rattle.image_members.specs.ManifestRows.{IsModuleRow, IsAssemblyRow}
use Rattle.image_rows.specs.MapRows.{run_rows, map_rows, event_count, property_count}
use Rattle.image_rows.specs.OverrideRows.{Override, overrides, overrides_from, IsOverrideRow}
use Rattle.image_members.specs.Places.{all_fields, all_methods, class_properties, class_events}
use Rattle.image_rows.specs.PropertyRows.{IsPropertyRow}
use Rattle.image_members.specs.Pushing.{Tables}
use Rattle.image_rows.specs.SemanticsRows.{semantics_row}
use Rattle.image_members.specs.TypeIndexes.{IsTypeIndex}
use Rattle.image_members.specs.declared.classes.Class.{Class}

-- ---- enclosers have rows

enclosers : (enc row last : ℕ) (types : List TypeDef) (classes : List Class) → AreClasses enc row types classes → enc ≤ last → row + length classes ≤ last + 1
    → AllByRecursion (λ c. c.encloser ≤ last) classes
enclosers enc row last types classes (none e f) le few = subst (AllByRecursion (λ (c : Class). c.encloser ≤ last)) (sym f) tt
enclosers enc row last types classes (more {type = type} {beside = beside} {class = class} {nested = nested} {others = others} of is inner outer e f) le few =
    let long : length classes ≡ suc (length nested + length others) = ap length f ∙ ap suc (length-append nested others) in
    subst (AllByRecursion (λ (c : Class). c.encloser ≤ last)) (sym f) (
      subst (λ n. n ≤ last) (sym is) le,
      each_joined (λ (c : Class). c.encloser ≤ last) nested others (enclosers row (row + 1) last (out-TypeDef type).nested nested inner (omega arith) (omega arith))
          (enclosers enc (row + 1 + length nested) last beside others outer le (omega arith)),
    )

interfaces_numbered : (classes : List Class) (row last : ℕ) → row + length classes ≤ last + 1 → AllByRecursion (λ t. t.0 ≤ last) (interfaces_from row classes)
interfaces_numbered [] row last few = tt
interfaces_numbered (c ∷ cs) row last few = (omega arith, interfaces_numbered cs (row + 1) last (omega arith))

-- ---- methods by type, and what they override

owned_rows : (classes : List Class) (row last : ℕ) → row + length classes ≤ last + 1 → AllByRecursion (λ m. m.0 ≤ last) (owned row (map class_methods classes))
owned_rows [] row last few = tt
owned_rows (c ∷ cs) row last few =
    each_joined (λ (m : ℕ × Method). m.0 ≤ last) (map (λ (m : Method). (row, m)) (class_methods c)) (owned (row + 1) (map class_methods cs))
    (each_mapped (λ (m : ℕ × Method). m.0 ≤ last) (λ (m : Method). (row, m)) (class_methods c) (each_all (λ (m : Method). row ≤ last) (class_methods c) (λ m. omega arith)))
    (owned_rows cs (row + 1) last (omega arith))

overrides_numbered : (declared : List Cells) (methods : List Method) (row last types : ℕ) → row + length methods ≤ last + 1 → AllByRecursion (λ c. c.first ≤ types) declared
    → AllByRecursion (λ o. (o.type ≤ types) × (o.body ≤ last)) (overrides_from row declared methods)
overrides_numbered declared [] row last types few h = tt
overrides_numbered [] (m ∷ ms) row last types few h = tt
overrides_numbered (c ∷ declared) (m ∷ ms) row last types few h =
    each_joined (λ (o : Override). (o.type ≤ types) × (o.body ≤ last)) (overrides c.first row m.overrides) (overrides_from (row + 1) declared ms)
    (each_mapped (λ (o : Override). (o.type ≤ types) × (o.body ≤ last)) (λ (x : MethodRef). record { type = c.first; body = row; of = x }) m.overrides
    (each_all (λ (x : MethodRef). (c.first ≤ types) × (row ≤ last)) m.overrides (λ x. (h.0, omega arith))))
    (overrides_numbered declared ms (row + 1) last types (omega arith) h.1)

-- ---- rows

module _ (r : References) (tables : Tables) where
  abbrev In : ℕ → List ℕ → Type 0
  In table cells = AreIndexesIn r tables (columns_of table) cells

  layout_in : (n : ℕ × Class) → n.0 ≤ rows_in tables 0x02 → AllByRecursion (In 0x0F) (layout_rows n)
  unfolding schema
  layout_in n le = go (out-TypeDef n.1.of.now).layout where
    go : (l : Option Layout) → AllByRecursion (In 0x0F) (stated_rows n.0 l)
    go None = tt
    go (Some l) = ((tt, (tt, (le, tt))), tt)

  nested_in : (n : ℕ × Class) → n.0 ≤ rows_in tables 0x02 → n.1.encloser ≤ rows_in tables 0x02 → AllByRecursion (In 0x29) (nested_rows n)
  unfolding schema
  nested_in n le outer = go (n.1.encloser == 0) where
    go : (b : Bool) → AllByRecursion (In 0x29) (cond b [] ((n.0 ∷ n.1.encloser ∷ []) ∷ []))
    go true = tt
    go false = ((le, (outer, tt)), tt)

  offset_in : (n : ℕ × Field) → n.0 ≤ rows_in tables 0x04 → AllByRecursion (In 0x10) (offset_rows n)
  unfolding schema
  offset_in n le = go n.1.offset where
    go : (o : Option ℕ) → AllByRecursion (In 0x10) (stated_offset n.0 o)
    go None = tt
    go (Some o) = ((tt, (le, tt)), tt)

  datum_in : (last : ℕ) (n : ℕ × Field) → n.0 ≤ last → AllByRecursion (λ d. d.field ≤ last) (field_data n)
  datum_in last n le = go n.1.content where
    go : (o : Option (List ℕ)) → AllByRecursion (λ d. d.field ≤ last) (stated_data n.0 o)
    go None = tt
    go (Some bytes) = (le, tt)

  data_in : (code cells : List ℕ) (d : Datum) → IsDataRow code cells d → d.field ≤ rows_in tables 0x04 → In 0x1D cells
  unfolding schema
  data_in code cells d h le = subst (In 0x1D) (sym h.are) (tt, (le, tt))

  run_in : (table runs row all first count : ℕ) → columns_of table ≡ columns_of table → all ≡ rows_in tables runs → row ≤ rows_in tables 0x02 → first ≤ all + 1
      → ((cell : ℕ) → BeginsRun tables runs cell → In table (row ∷ cell ∷ [])) → AllByRecursion (In table) (run_rows row (run_cell all first) count)
  run_in table runs row all first count same e le few f = go (count == 0) where
    go : (b : Bool) → AllByRecursion (In table) (cond b [] ((row ∷ run_cell all first ∷ []) ∷ []))
    go true = tt
    go false = (f (run_cell all first) (begins r tables runs all first e few), tt)

  runs_in : (table runs all : ℕ) {X : Type 0} (of : Class → List X) → all ≡ rows_in tables runs
      → ((row cell : ℕ) → row ≤ rows_in tables 0x02 → BeginsRun tables runs cell → In table (row ∷ cell ∷ []))
      → (classes : List Class) (row first : ℕ) → row + length classes ≤ rows_in tables 0x02 + 1 → first + length (flat_map of classes) ≤ all + 1
      → AllByRecursion (In table) (map_rows (λ c. length (of c)) all row first classes)
  runs_in table runs all of e f [] row first few fits = tt
  runs_in table runs all of e f (c ∷ cs) row first few fits =
      let own = ap length (flat_map-cons of c cs) ∙ length-append (of c) (flat_map of cs) in
      each_joined (In table) (run_rows row (run_cell all first) (length (of c))) (map_rows (λ c. length (of c)) all (row + 1) (first + length (of c)) cs)
      (run_in table runs row all first (length (of c)) refl e (omega arith) (omega arith) (λ cell b. f row cell (omega arith) b))
      (runs_in table runs all of e f cs (row + 1) (first + length (of c)) (omega arith) (omega arith))

  event_run : (row cell : ℕ) → row ≤ rows_in tables 0x02 → BeginsRun tables 0x14 cell → In 0x12 (row ∷ cell ∷ [])
  unfolding schema
  event_run row cell le b = (le, (b, tt))

  property_run : (row cell : ℕ) → row ≤ rows_in tables 0x02 → BeginsRun tables 0x17 cell → In 0x15 (row ∷ cell ∷ [])
  unfolding schema
  property_run row cell le b = (le, (b, tt))

  constant_in : (cells : List ℕ) (c : ℕ × Constant) → IsConstantRow r cells c → Leads HasConstant tables c.0 → In 0x0B cells
  unfolding schema
  constant_in cells c h l = subst (In 0x0B) (sym h.are) (tt, (tt, (l, (blob_in r _ h.value h.value_is, tt))))

  generic_in : (cells : List ℕ) (g : ℕ × (ℕ × Generic)) → IsGenericRow r cells g → Leads TypeOrMethodDef tables g.0 → In 0x2A cells
  unfolding schema
  generic_in cells g h l = subst (In 0x2A) (sym h.are) (tt, (tt, (l, (text_in r _ h.name h.name_is, tt))))

  accessor_in : (x : ℕ × (ℕ × ℕ)) → x.1.1 ≤ rows_in tables 0x06 → Leads HasSemantics tables x.0 → In 0x18 (semantics_row x)
  unfolding schema
  accessor_in x le l = (tt, (le, (l, tt)))

  module _ (known : AreKnown r) (count : Counted r tables) where
    attribute_in : (cells : List ℕ) (x : ℕ × Attribute) → IsAttributeRow r cells x → Leads HasCustomAttribute tables x.0 → In 0x0C cells
    unfolding schema
    attribute_in cells x h l =
        subst (In 0x0C) (sym h.are)
        (l, (token_index CustomAttributeType tables h.token (method_there r tables known count x.1.constructor h.token h.token_is), (blob_in r _ h.value h.value_is, tt)))

    override_in : (cells : List ℕ) (o : Override) → IsOverrideRow r cells o → (o.type ≤ rows_in tables 0x02) × (o.body ≤ rows_in tables 0x06) → In 0x19 cells
    unfolding schema
    override_in cells o h k =
        subst (In 0x19) (sym h.are)
        (k.0, (row_index MethodDefOrRef tables 0x06 o.body k.1, (token_index MethodDefOrRef tables h.token (method_there r tables known count o.of h.token h.token_is), tt)))

    bound_in : (cells : List ℕ) (b : ℕ × Owner) → IsBoundRow r cells b → b.0 ≤ rows_in tables 0x2A → In 0x2C cells
    unfolding schema
    bound_in cells b h le = subst (In 0x2C) (sym h.are) (le, (type_in r tables known count b.1 h.type h.type_is, tt))

    interface_in : (row : ℕ) (index : ℕ) → row ≤ rows_in tables 0x02 → Leads TypeDefOrRef tables index → In 0x09 (row ∷ index ∷ [])
    unfolding schema
    interface_in row index le l = (le, (l, tt))

    group_in : (rows : List (List ℕ)) (t : ℕ × List Owner) → AreInterfaceRows r rows t → t.0 ≤ rows_in tables 0x02 → AllByRecursion (In 0x09) rows
    group_in rows t h le =
        let found : AllByRecursion (Leads TypeDefOrRef tables) h.found = zip_all (λ index o. IsTypeIndex o r index) (Leads TypeDefOrRef tables) h.found t.1 (λ index o x. type_in r tables known count o index x) h.each in
        let all : AllByRecursion (Leads TypeDefOrRef tables) h.indexes = each_permuted (Leads TypeDefOrRef tables) h.found h.indexes h.same found in
        subst (AllByRecursion (In 0x09)) (sym h.are)
        (each_mapped (In 0x09) (λ (index : ℕ). t.0 ∷ index ∷ []) h.indexes (each_weaker (Leads TypeDefOrRef tables) (λ index. In 0x09 (t.0 ∷ index ∷ [])) h.indexes (λ index l. interface_in t.0 index le l) all))

-- ---- a filled image

le_mapped : {X Y : Type 0} (f : X → Y) (xs : List X) (n : ℕ) → length xs ≡ n → length (map f xs) ≤ n
le_mapped f xs n e = let same = length-map xs f in omega arith

le_after : {X Y : Type 0} (f : X → Y) (y : Y) (xs : List X) (n : ℕ) → n ≡ suc (length xs) → length (y ∷ map f xs) ≤ n
le_after f y xs n e = let same = length-map xs f in omega arith

event_access_long : (first : ℕ) (classes : List Class) → length (access_from event_access first classes) ≡ length (events_in classes)
event_access_long first [] = refl
event_access_long first (c ∷ cs) =
    let own = length-append (event_access first c) (access_from event_access (first + length (class_methods c)) cs) in
    let same = length-map (class_events c) (λ (e : Event). access_of first e.accessors) in
    let rest = event_access_long (first + length (class_methods c)) cs in
    let all = ap length (flat_map-cons class_events c cs) ∙ length-append (class_events c) (flat_map class_events cs) in
    omega arith

property_access_long : (first : ℕ) (classes : List Class) → length (access_from property_access first classes) ≡ length (properties_in classes)
property_access_long first [] = refl
property_access_long first (c ∷ cs) =
    let own = length-append (property_access first c) (access_from property_access (first + length (class_methods c)) cs) in
    let same = length-map (class_properties c) (λ (p : Property). access_of first p.accessors) in
    let rest = property_access_long (first + length (class_methods c)) cs in
    let all = ap length (flat_map-cons class_properties c cs) ∙ length-append (class_properties c) (flat_map class_properties cs) in
    omega arith

module _ (a : Assembly) (classes : List Class) (r : References) (tables : Tables) (code : List ℕ) (accessors : AccessorsAreMethods a classes)
    (h : IsFilled a classes r tables code) where
  abbrev types_last : ℕ
  types_last = rows_in tables 0x02

  abbrev Rows : ℕ → Type 0
  Rows table = AllByRecursion (AreIndexesIn r tables (columns_of table)) (rows_of tables table)

  types_are : rows_in tables 0x02 ≡ suc (length classes)
  types_are = classes_count a classes r tables code h

  types_fit : 2 + length classes ≤ rows_in tables 0x02 + 1
  types_fit = let e = types_are in omega arith

  fields_are : length (all_fields a classes) ≡ rows_in tables 0x04
  fields_are = fields_count a classes r tables code h

  methods_are : length (all_methods a classes) ≡ rows_in tables 0x06
  methods_are = methods_count a classes r tables code h

  params_are : length (params_in a classes) ≡ rows_in tables 0x08
  params_are = params_count a classes r tables code h

  events_are : length (events_in classes) ≡ rows_in tables 0x14
  events_are = sym (zip_long (IsEventRow r) (rows_of tables 0x14) (events_in classes) h.properties.events)

  properties_are : length (properties_in classes) ≡ rows_in tables 0x17
  properties_are = sym (zip_long (IsPropertyRow r) (rows_of tables 0x17) (properties_in classes) h.properties.properties)

  generics_are : length (generics_in a classes) ≡ rows_in tables 0x2A
  generics_are = length-map (generic_items a classes) _ ∙ sym (zip_long (IsGenericRow r) (rows_of tables 0x2A) (generic_items a classes) h.owned.generics)

  one_module : rows_in tables 0x00 ≡ 1
  one_module = zip_long (IsModuleRow r) (rows_of tables 0x00) (a.manifest ∷ []) h.manifest.module_row

  one_assembly : rows_in tables 0x20 ≡ 1
  one_assembly = zip_long (IsAssemblyRow r) (rows_of tables 0x20) (a.manifest ∷ []) h.manifest.assembly_row

  count : Counted r tables
  count = counted a classes r tables code h

  -- types and fields with their rows

  numbered_types : AllByRecursion (λ n. (n.0 ≤ rows_in tables 0x02) × (n.1.encloser ≤ rows_in tables 0x02)) (enumerate_from 2 classes)
  numbered_types =
      each_numbered (λ (c : Class). c.encloser ≤ rows_in tables 0x02) classes 2 (rows_in tables 0x02) types_fit
      (enclosers 0 2 (rows_in tables 0x02) a.types classes h.classes_are (omega arith) types_fit)

  numbered_fields : AllByRecursion (λ n. (n.0 ≤ rows_in tables 0x04) × (n.1 ≡ n.1)) (enumerate_from 1 (all_fields a classes))
  numbered_fields =
      each_numbered (λ (f : Field). f ≡ f) (all_fields a classes) 1 (rows_in tables 0x04) (let e = fields_are in omega arith) (each_all (λ (f : Field). f ≡ f) (all_fields a classes) (λ f. refl))

  layouts : Rows 0x0F
  layouts = subst (AllByRecursion (AreIndexesIn r tables (columns_of 0x0F))) (sym h.types.layouts)
      (each_flat (λ n. (n.0 ≤ rows_in tables 0x02) × (n.1.encloser ≤ rows_in tables 0x02)) (AreIndexesIn r tables (columns_of 0x0F)) layout_rows (enumerate_from 2 classes)
      (λ n k. layout_in r tables n k.0) numbered_types)

  nested : Rows 0x29
  nested = subst (AllByRecursion (AreIndexesIn r tables (columns_of 0x29))) (sym h.types.nested)
      (each_flat (λ n. (n.0 ≤ rows_in tables 0x02) × (n.1.encloser ≤ rows_in tables 0x02)) (AreIndexesIn r tables (columns_of 0x29)) nested_rows (enumerate_from 2 classes)
      (λ n k. nested_in r tables n k.0 k.1) numbered_types)

  offsets : Rows 0x10
  offsets = subst (AllByRecursion (AreIndexesIn r tables (columns_of 0x10))) (sym h.fields.offsets)
      (each_flat (λ n. (n.0 ≤ rows_in tables 0x04) × (n.1 ≡ n.1)) (AreIndexesIn r tables (columns_of 0x10)) offset_rows (enumerate_from 1 (all_fields a classes))
      (λ n k. offset_in r tables n k.0) numbered_fields)

  contents : Rows 0x1D
  contents =
      zip_known (IsDataRow code) (λ d. d.field ≤ rows_in tables 0x04) (AreIndexesIn r tables (columns_of 0x1D)) (rows_of tables 0x1D) (all_data 1 (all_fields a classes))
      (λ cells d row k. data_in r tables code cells d row k) h.fields.contents
      (each_flat (λ n. (n.0 ≤ rows_in tables 0x04) × (n.1 ≡ n.1)) (λ d. d.field ≤ rows_in tables 0x04) field_data (enumerate_from 1 (all_fields a classes))
      (λ n k. datum_in r tables (rows_in tables 0x04) n k.0) numbered_fields)

  event_map : Rows 0x12
  event_map = subst (AllByRecursion (AreIndexesIn r tables (columns_of 0x12))) (sym h.types.event_map)
      (runs_in r tables 0x12 0x14 (length (events_in classes)) class_events events_are (event_run r tables) classes 2 1 types_fit (omega arith))

  property_map : Rows 0x15
  property_map = subst (AllByRecursion (AreIndexesIn r tables (columns_of 0x15))) (sym h.types.property_map)
      (runs_in r tables 0x15 0x17 (length (properties_in classes)) class_properties properties_are (property_run r tables) classes 2 1 types_fit (omega arith))

  constants : Rows 0x0B
  constants =
      zip_known (IsConstantRow r) (λ c. Leads HasConstant tables c.0) (AreIndexesIn r tables (columns_of 0x0B)) (rows_of tables 0x0B) (constant_items a classes)
      (λ cells c row l. constant_in r tables cells c row l) h.owned.constants
      (by_number_leads HasConstant tables (constant_lists a classes) (longest_of (constant_lists a classes))
      (le_mapped _ (all_fields a classes) (rows_in tables 0x04) fields_are, (le_mapped _ (params_in a classes) (rows_in tables 0x08) params_are, (le_mapped _ (properties_in classes) (rows_in tables 0x17) properties_are, tt))))

  generics : Rows 0x2A
  generics =
      zip_known (IsGenericRow r) (λ g. Leads TypeOrMethodDef tables g.0) (AreIndexesIn r tables (columns_of 0x2A)) (rows_of tables 0x2A) (generic_items a classes)
      (λ cells g row l. generic_in r tables cells g row l) h.owned.generics
      (by_number_leads TypeOrMethodDef tables (generic_lists a classes) (longest_of (generic_lists a classes))
      (le_after _ [] classes (rows_in tables 0x02) types_are, (le_mapped _ (all_methods a classes) (rows_in tables 0x06) methods_are, tt)))

  attributes : Rows 0x0C
  attributes =
      zip_known (IsAttributeRow r) (λ x. Leads HasCustomAttribute tables x.0) (AreIndexesIn r tables (columns_of 0x0C)) (rows_of tables 0x0C) (attribute_items a classes)
      (λ cells x row l. attribute_in r tables h.known count cells x row l) h.owned.attributes
      (by_number_leads HasCustomAttribute tables (attribute_lists a classes) (longest_of (attribute_lists a classes)) (
        le_mapped _ (all_methods a classes) (rows_in tables 0x06) methods_are,
        (
          le_mapped _ (all_fields a classes) (rows_in tables 0x04) fields_are,
          (
            le_after _ [] classes (rows_in tables 0x02) types_are,
            (
              le_mapped _ (params_in a classes) (rows_in tables 0x08) params_are,
              (
                (let e = one_module in omega arith),
                (
                  le_mapped _ (properties_in classes) (rows_in tables 0x17) properties_are,
                  (
                    le_mapped _ (events_in classes) (rows_in tables 0x14) events_are,
                    (
                      (let e = one_assembly in omega arith),
                      (le_mapped _ (generics_in a classes) (rows_in tables 0x2A) generics_are, tt),
                    ),
                  ),
                ),
              ),
            ),
          ),
        ),
      ))

  accessor_rows : Rows 0x18
  accessor_rows = subst (AllByRecursion (AreIndexesIn r tables (columns_of 0x18))) (sym h.properties.accessors)
      (each_mapped (AreIndexesIn r tables (columns_of 0x18)) semantics_row (accessor_items a classes)
      (each_both (λ x. x.1.1 ≤ length (all_methods a classes)) (λ x. Leads HasSemantics tables x.0) (λ x. AreIndexesIn r tables (columns_of 0x18) (semantics_row x)) (accessor_items a classes)
      (λ x le l. accessor_in r tables x (let e = methods_are in omega arith) l) accessors
      (by_number_leads HasSemantics tables (accessor_lists a classes) (longest_of (accessor_lists a classes)) (
        (let e = events_are in let l = event_access_long (1 + length a.methods) classes in omega arith),
        ((let e = properties_are in let l = property_access_long (1 + length a.methods) classes in omega arith), tt),
      ))))

  owners_there : AllByRecursion (λ c. c.first ≤ rows_in tables 0x02) r.declared.methods
  owners_there =
      zip_known (IsMethodOf r) (λ m. m.0 ≤ rows_in tables 0x02) (λ (c : Cells). c.first ≤ rows_in tables 0x02) r.declared.methods (owned 1 (a.methods ∷ map class_methods classes))
      (λ c m row k. subst (λ n. n ≤ rows_in tables 0x02) (sym row.type_is) k) h.declared.methods
      (each_joined (λ (m : ℕ × Method). m.0 ≤ rows_in tables 0x02) (map (λ (m : Method). (1, m)) a.methods) (owned 2 (map class_methods classes))
      (each_mapped (λ (m : ℕ × Method). m.0 ≤ rows_in tables 0x02) (λ (m : Method). (1, m)) a.methods (each_all (λ (m : Method). 1 ≤ rows_in tables 0x02) a.methods (λ m. let e = types_are in omega arith)))
      (owned_rows classes 2 (rows_in tables 0x02) types_fit))

  override_rows : Rows 0x19
  override_rows =
      zip_known (IsOverrideRow r) (λ o. (o.type ≤ rows_in tables 0x02) × (o.body ≤ rows_in tables 0x06)) (AreIndexesIn r tables (columns_of 0x19)) (rows_of tables 0x19)
      (overrides_from 1 r.declared.methods (all_methods a classes)) (λ cells o row k. override_in r tables h.known count cells o row k) h.methods.overrides
      (overrides_numbered r.declared.methods (all_methods a classes) 1 (rows_in tables 0x06) (rows_in tables 0x02) (let e = methods_are in omega arith) owners_there)

  bounds : Rows 0x2C
  bounds =
      zip_known (IsBoundRow r) (λ b. b.0 ≤ rows_in tables 0x2A) (AreIndexesIn r tables (columns_of 0x2C)) (rows_of tables 0x2C) (bounds_from 1 (generics_in a classes))
      (λ cells b row k. bound_in r tables h.known count cells b row k) h.owned.bounds
      (each_flat (λ n. (n.0 ≤ rows_in tables 0x2A) × (n.1 ≡ n.1)) (λ b. b.0 ≤ rows_in tables 0x2A) bounds_in (enumerate_from 1 (generics_in a classes))
      (λ n k. each_mapped (λ (b : ℕ × Owner). b.0 ≤ rows_in tables 0x2A) (λ (o : Owner). (n.0, o)) n.1.bounds (each_all (λ (o : Owner). n.0 ≤ rows_in tables 0x2A) n.1.bounds (λ o. k.0)))
      (each_numbered (λ (g : Generic). g ≡ g) (generics_in a classes) 1 (rows_in tables 0x2A) (let e = generics_are in omega arith)
      (each_all (λ (g : Generic). g ≡ g) (generics_in a classes) (λ g. refl))))

  interfaces : Rows 0x09
  interfaces =
      let i = h.types.interfaces in
      subst (AllByRecursion (AreIndexesIn r tables (columns_of 0x09))) (sym i.are)
      (each_flat (λ g. AllByRecursion (AreIndexesIn r tables (columns_of 0x09)) g) (AreIndexesIn r tables (columns_of 0x09)) (λ (g : List (List ℕ)). g) i.groups (λ g k. k)
      (zip_known (AreInterfaceRows r) (λ t. t.0 ≤ rows_in tables 0x02) (λ g. AllByRecursion (AreIndexesIn r tables (columns_of 0x09)) g) i.groups (interfaces_from 2 classes)
      (λ g t row k. group_in r tables h.known count g t row k) i.each (interfaces_numbered classes 2 (rows_in tables 0x02) types_fit)))

  pub owned_tables : HasOwnedIndexes r tables
  owned_tables = record {
    interfaces = leads r tables 0x09 interfaces;
    constants = leads r tables 0x0B constants;
    attributes = leads r tables 0x0C attributes;
    layouts = leads r tables 0x0F layouts;
    offsets = leads r tables 0x10 offsets;
    event_map = leads r tables 0x12 event_map;
    property_map = leads r tables 0x15 property_map;
    accessors = leads r tables 0x18 accessor_rows;
    overrides = leads r tables 0x19 override_rows;
    contents = leads r tables 0x1D contents;
    nested = leads r tables 0x29 nested;
    generics = leads r tables 0x2A generics;
    bounds = leads r tables 0x2C bounds;
  }
