-- An image whose tables hold the rows of an assembly reads as they were made, table by table.
use Rattle.std.proofs.Common.{◌≡◌, ap, refl, sym, ◌∙◌, subst, ℕ, suc, ◌+◌, ◌==◌, Bool, true, false, cond, List, [], ◌∷◌, map, length, Option, Some, None, arith}
use Rattle.std.specs.Prelude.{slice_get}
use Rattle.std.specs.List.{AllByRecursion, AllZip, flat_map, enumerate_from}
use Rattle.assembly_tree.specs.declared.assembly.Assembly.{Assembly}
use Rattle.assembly_tree.specs.declared.typedef.Layout.{Layout}
use Rattle.assembly_tree.specs.declared.typedef.TypeDef.TheViews.{out-TypeDef}
use Rattle.metadata_tables.specs.Encoding.{rows_of}
use Rattle.metadata_tables.specs.Schema.{schema}
use Rattle.image_tokens.specs.declared.references.References.{References}
use Rattle.type_terms.specs.declared.term.Owner.{Owner}
use Rattle.metadata_tables.specs.Indexes.{run_cell}
use Rattle.image_rows.specs.AttributeRows.{IsAttributeRow}
use Rattle.image_rows.specs.ClassRows.{class_rows, nested_rows, layout_rows, stated_rows}
use Rattle.image_members.specs.ConstantRows.{IsConstantRow}
use Rattle.image_members.specs.DataRows.{all_data, IsDataRow}
use Rattle.image_members.specs.DeclaredMembers.{class_fields, class_methods}
use Rattle.image_rows.specs.EventRows.{IsEventRow}
use Rattle.image_rows.specs.FieldRows.{IsFieldRow, offset_rows, stated_offset}
use Rattle.image_rows.specs.Filled.{three_cells, two_cells, first_cell, IsFilled, HoldsReferences, HoldsManifest, HoldsTypeRows, HoldsInterfaces, HoldsTypes, HoldsFields, HoldsMethods, HoldsProperties, HoldsOwned}
use Rattle.image_members.specs.GenericRows.{bounds_from, IsBoundRow, IsGenericRow}
use Rattle.image_rows.specs.InterfaceRows.{interfaces_from, joined, AreInterfaceRows}
use Rattle.image_members.specs.Lists.{attribute_items, constant_items, accessor_items, generic_items, generics_in, params_in, properties_in, events_in}
use Rattle.image_members.specs.ManifestRows.{IsModuleRow, IsAssemblyRow, IsExternRow}
use Rattle.image_rows.specs.MapRows.{map_rows, run_rows, event_count, property_count}
use Rattle.image_rows.specs.MethodRows.{placed_methods, PlacedMethod, IsMethodRow}
use Rattle.image_rows.specs.OverrideRows.{overrides_from, IsOverrideRow}
use Rattle.image_rows.specs.ParamRows.{IsParamRow}
use Rattle.image_members.specs.Places.{all_fields, all_methods}
use Rattle.image_rows.specs.PropertyRows.{IsPropertyRow}
use Rattle.image_members.specs.Pushing.{Tables}
use Rattle.image_rows.specs.SemanticsRows.{semantics_row}
use Rattle.image_rows.specs.TypeRows.{numbered, Numbered, IsModuleType, IsTypeDefRow}
use Rattle.image_members.specs.declared.classes.Class.{Class}
use Rattle.image_layout.specs.Laws.{ReadsTables}
use Rattle.laws_image_parts.specs.RowCells.{module_cells, type_ref_cells, type_cells, field_cells, method_cells, param_cells, interface_cells, member_cells, constant_cells, attribute_cells, layout_cells, offset_cells, locals_cells, event_map_cells, event_cells, property_map_cells, property_cells, semantics_cells, override_cells, type_spec_cells, data_cells, assembly_cells, extern_cells, nested_cells, generic_cells, instance_cells, bound_cells}
use Rattle.laws_image_parts.specs.RowsRead.{IsMade, row_itself, ReadsReferences, ReadsManifest, ReadsTypeRows, ReadsInterfaces, ReadsTypes, ReadsFields, ReadsMethods, ReadsProperties, ReadsOwned, ReadsRows}
use Rattle.laws_image_parts.proofs.CellLemmas.{all_always, all_both, all_flat, reads_items, row_is, zip_get, zip_long, zip_made}

-- rows whose number of cells follows from what they are
long_rows : {X : Type 0} (IsRow : List ℕ → X → Type 0) (n : ℕ) (rows : List (List ℕ)) (items : List X) → ((row : List ℕ) (x : X) → IsRow row x → length row ≡ n)
    → AllZip IsRow rows items → AllZip (λ row x. IsRow row x × (length row ≡ n)) rows items
long_rows IsRow n [] [] long h = tt
long_rows IsRow n [] (x ∷ xs) long h = absurd h
long_rows IsRow n (row ∷ rows) [] long h = absurd h
long_rows IsRow n (row ∷ rows) (x ∷ xs) long h = ((h.0, long row x h.0), long_rows IsRow n rows xs long h.1)

same_rows : (rows : List (List ℕ)) → rows ≡ map row_itself rows
same_rows [] = refl
same_rows (row ∷ rows) = ap (λ rs. row ∷ rs) (same_rows rows)

-- rows that stand as they are
itself : (n : ℕ) (held rows : List (List ℕ)) → held ≡ rows → AllByRecursion (λ row. length row ≡ n) rows → AllZip (λ cells row. IsMade row_itself cells row × (length cells ≡ n)) held rows
itself n held rows e long = zip_made row_itself n held rows (e ∙ same_rows rows) long

module _ (r : References) (tables : Tables) (image : List ℕ) (reads : ReadsTables r tables image) where
  references_read : HoldsReferences r tables → ReadsReferences r image
  unfolding schema
  references_read h = record {
    names = reads_items r tables image reads 0x01 3 type_ref_cells (IsMade three_cells) r.referred.names refl (λ k. refl)
        (zip_made three_cells 3 (rows_of tables 0x01) r.referred.names h.names (all_always (λ c. length (three_cells c) ≡ 3) (λ c. refl) r.referred.names));
    members = reads_items r tables image reads 0x0A 3 member_cells (IsMade three_cells) r.referred.members refl (λ k. refl)
        (zip_made three_cells 3 (rows_of tables 0x0A) r.referred.members h.members (all_always (λ c. length (three_cells c) ≡ 3) (λ c. refl) r.referred.members));
    locals = reads_items r tables image reads 0x11 1 locals_cells (IsMade first_cell) r.referred.locals refl (λ k. refl)
        (zip_made first_cell 1 (rows_of tables 0x11) r.referred.locals h.locals (all_always (λ c. length (first_cell c) ≡ 1) (λ c. refl) r.referred.locals));
    specs = reads_items r tables image reads 0x1B 1 type_spec_cells (IsMade first_cell) r.referred.specs refl (λ k. refl)
        (zip_made first_cell 1 (rows_of tables 0x1B) r.referred.specs h.specs (all_always (λ c. length (first_cell c) ≡ 1) (λ c. refl) r.referred.specs));
    instances = reads_items r tables image reads 0x2B 2 instance_cells (IsMade two_cells) r.referred.instances refl (λ k. refl)
        (zip_made two_cells 2 (rows_of tables 0x2B) r.referred.instances h.instances (all_always (λ c. length (two_cells c) ≡ 2) (λ c. refl) r.referred.instances));
  }

  manifest_read : (a : Assembly) → HoldsManifest a r tables → ReadsManifest a r image
  unfolding schema
  manifest_read a h = record {
    module_row = reads_items r tables image reads 0x00 5 module_cells (IsModuleRow r) (a.manifest ∷ []) refl (λ k. refl)
        (long_rows (IsModuleRow r) 5 (rows_of tables 0x00) (a.manifest ∷ []) (λ row m is. ap (length {A = ℕ}) is.are) h.module_row);
    assembly_row = reads_items r tables image reads 0x20 9 assembly_cells (IsAssemblyRow r) (a.manifest ∷ []) refl (λ k. refl)
        (long_rows (IsAssemblyRow r) 9 (rows_of tables 0x20) (a.manifest ∷ []) (λ row m is. ap (length {A = ℕ}) is.are) h.assembly_row);
    externs = reads_items r tables image reads 0x23 9 extern_cells (IsExternRow r) a.externs refl (λ k. refl)
        (long_rows (IsExternRow r) 9 (rows_of tables 0x23) a.externs (λ row e is. ap (length {A = ℕ}) is.are) h.externs);
  }

  module _ (a : Assembly) (classes : List Class) where
    abbrev F : ℕ
    F = length (all_fields a classes)

    abbrev M : ℕ
    M = length (all_methods a classes)

    numbered_long : (field method : ℕ) (cs : List Class) → length (numbered field method cs) ≡ length cs
    numbered_long field method [] = refl
    numbered_long field method (c ∷ cs) = ap suc (numbered_long (field + length (class_fields c)) (method + length (class_methods c)) cs)

    type_rows_read : HoldsTypeRows a classes r tables → ReadsTypeRows a classes r image
    unfolding schema
    type_rows_read h =
        let ns = numbered (1 + length a.fields) (1 + length a.methods) classes in
        let is_row : List ℕ → Numbered → Type 0 = IsTypeDefRow F M r in
        let held : (cells : List ℕ) (k : ℕ) → slice_get (h.module_cells ∷ h.rows) k ≡ Some cells → slice_get (rows_of tables 0x02) k ≡ Some cells =
        (λ cells k at. ap (λ (rows : List (List ℕ)). slice_get rows k) h.are ∙ at) in
        record {
          count = reads.counts 0x02 ∙ ap (length {A = List ℕ}) h.are
              ∙ (let one = zip_long is_row h.rows ns h.each in let two = numbered_long (1 + length a.fields) (1 + length a.methods) classes in omega arith);
          module_is =
              let is = row_is r tables image reads 0x02 6 0 h.module_cells refl (held h.module_cells 0 refl) (ap (length {A = ℕ}) h.module_is.are) in
              subst (λ cs. IsModuleType F M r cs) (sym is) h.module_is;
          each = λ k n at.
              let row = zip_get is_row h.rows ns k n h.each at in
              let is = row_is r tables image reads 0x02 6 (suc k) row.0 refl (held row.0 (suc k) row.1) (ap (length {A = ℕ}) row.2.are) in
              let here : 1 + suc k ≡ 2 + k = omega arith in
              subst (λ j. IsTypeDefRow F M r (type_cells image j) n) here (subst (λ cs. IsTypeDefRow F M r cs n) (sym is) row.2);
        }

  made_two : (n : ℕ) (indexes : List ℕ) → AllByRecursion (λ (row : List ℕ). length row ≡ 2) (map (λ (index : ℕ). n ∷ index ∷ []) indexes)
  made_two n [] = tt
  made_two n (i ∷ is) = (refl, made_two n is)

  groups_two : (groups : List (List (List ℕ))) (ts : List (ℕ × List Owner)) → AllZip (AreInterfaceRows r) groups ts → AllByRecursion (λ (row : List ℕ). length row ≡ 2) (joined groups)
  groups_two [] [] h = tt
  groups_two [] (t ∷ ts) h = absurd h
  groups_two (g ∷ gs) [] h = absurd h
  groups_two (g ∷ gs) (t ∷ ts) h =
      all_both (λ (row : List ℕ). length row ≡ 2) g (joined gs)
      (subst (AllByRecursion (λ (row : List ℕ). length row ≡ 2)) (sym h.0.are) (made_two t.0 h.0.indexes)) (groups_two gs ts h.1)

  interfaces_read : (classes : List Class) → HoldsInterfaces classes r tables → ReadsInterfaces classes r image
  unfolding schema
  interfaces_read classes h = record {
    groups = h.groups;
    are = reads_items r tables image reads 0x09 2 interface_cells (IsMade row_itself) (joined h.groups) refl (λ k. refl)
        (itself 2 (rows_of tables 0x09) (joined h.groups) h.are (groups_two h.groups (interfaces_from 2 classes) h.each));
    each = h.each;
  }

  encloser_two : (row encloser : ℕ) (b : Bool) → AllByRecursion (λ (cs : List ℕ). length cs ≡ 2) (cond b [] ((row ∷ encloser ∷ []) ∷ []))
  encloser_two row encloser true = tt
  encloser_two row encloser false = (refl, tt)

  stated_three : (row : ℕ) (l : Option Layout) → AllByRecursion (λ (cs : List ℕ). length cs ≡ 3) (stated_rows row l)
  stated_three row None = tt
  stated_three row (Some l) = (refl, tt)

  offset_two : (row : ℕ) (o : Option ℕ) → AllByRecursion (λ (cs : List ℕ). length cs ≡ 2) (stated_offset row o)
  offset_two row None = tt
  offset_two row (Some o) = (refl, tt)

  map_two : (count : Class → ℕ) (all row first : ℕ) (cs : List Class) → AllByRecursion (λ (cells : List ℕ). length cells ≡ 2) (map_rows count all row first cs)
  map_two count all row first [] = tt
  map_two count all row first (c ∷ cs) =
      all_both (λ (cells : List ℕ). length cells ≡ 2) (run_rows row (run_cell all first) (count c)) (map_rows count all (row + 1) (first + count c) cs)
      (encloser_two row (run_cell all first) (count c == 0)) (map_two count all (row + 1) (first + count c) cs)

  types_read : (a : Assembly) (classes : List Class) → HoldsTypes a classes r tables → ReadsTypes a classes r image
  unfolding schema
  types_read a classes h = record {
    types = type_rows_read a classes h.types;
    interfaces = interfaces_read classes h.interfaces;
    layouts = reads_items r tables image reads 0x0F 3 layout_cells (IsMade row_itself) (class_rows layout_rows classes) refl (λ k. refl)
        (itself 3 (rows_of tables 0x0F) (class_rows layout_rows classes) h.layouts
        (all_flat (λ (cs : List ℕ). length cs ≡ 3) layout_rows (λ p. stated_three p.0 (out-TypeDef p.1.of.now).layout) (enumerate_from 2 classes)));
    nested = reads_items r tables image reads 0x29 2 nested_cells (IsMade row_itself) (class_rows nested_rows classes) refl (λ k. refl)
        (itself 2 (rows_of tables 0x29) (class_rows nested_rows classes) h.nested
        (all_flat (λ (cs : List ℕ). length cs ≡ 2) nested_rows (λ p. encloser_two p.0 p.1.encloser (p.1.encloser == 0)) (enumerate_from 2 classes)));
    event_map = reads_items r tables image reads 0x12 2 event_map_cells (IsMade row_itself) (map_rows event_count (length (events_in classes)) 2 1 classes) refl (λ k. refl)
        (itself 2 (rows_of tables 0x12) (map_rows event_count (length (events_in classes)) 2 1 classes) h.event_map
        (map_two event_count (length (events_in classes)) 2 1 classes));
    property_map = reads_items r tables image reads 0x15 2 property_map_cells (IsMade row_itself) (map_rows property_count (length (properties_in classes)) 2 1 classes) refl (λ k. refl)
        (itself 2 (rows_of tables 0x15) (map_rows property_count (length (properties_in classes)) 2 1 classes) h.property_map
        (map_two property_count (length (properties_in classes)) 2 1 classes));
  }

  fields_read : (a : Assembly) (classes : List Class) (code : List ℕ) → HoldsFields a classes r tables code → ReadsFields a classes r code image
  unfolding schema
  fields_read a classes code h = record {
    fields = reads_items r tables image reads 0x04 3 field_cells (IsFieldRow r) (all_fields a classes) refl (λ k. refl)
        (long_rows (IsFieldRow r) 3 (rows_of tables 0x04) (all_fields a classes) (λ row f is. ap (length {A = ℕ}) is.are) h.fields);
    offsets = reads_items r tables image reads 0x10 2 offset_cells (IsMade row_itself) (flat_map offset_rows (enumerate_from 1 (all_fields a classes))) refl (λ k. refl)
        (itself 2 (rows_of tables 0x10) (flat_map offset_rows (enumerate_from 1 (all_fields a classes))) h.offsets
        (all_flat (λ (cs : List ℕ). length cs ≡ 2) offset_rows (λ p. offset_two p.0 p.1.offset) (enumerate_from 1 (all_fields a classes))));
    contents = reads_items r tables image reads 0x1D 2 data_cells (IsDataRow code) (all_data 1 (all_fields a classes)) refl (λ k. refl)
        (long_rows (IsDataRow code) 2 (rows_of tables 0x1D) (all_data 1 (all_fields a classes)) (λ row d is. ap (length {A = ℕ}) is.are) h.contents);
  }

  methods_read : (a : Assembly) (classes : List Class) (code : List ℕ) → HoldsMethods a classes r tables code → ReadsMethods a classes r code image
  unfolding schema
  methods_read a classes code h =
      let placed = placed_methods 1 h.rvas (all_methods a classes) in
      let is_method : List ℕ → PlacedMethod → Type 0 = IsMethodRow (length (params_in a classes)) r in
      let overriding = overrides_from 1 r.declared.methods (all_methods a classes) in
      record {
        rvas = h.rvas;
        bodies = h.bodies;
        methods = reads_items r tables image reads 0x06 6 method_cells is_method placed refl (λ k. refl)
            (long_rows is_method 6 (rows_of tables 0x06) placed (λ row p is. ap (length {A = ℕ}) is.are) h.methods);
        params = reads_items r tables image reads 0x08 3 param_cells (IsParamRow r) (params_in a classes) refl (λ k. refl)
            (long_rows (IsParamRow r) 3 (rows_of tables 0x08) (params_in a classes) (λ row p is. ap (length {A = ℕ}) is.are) h.params);
        overrides = reads_items r tables image reads 0x19 3 override_cells (IsOverrideRow r) overriding refl (λ k. refl)
            (long_rows (IsOverrideRow r) 3 (rows_of tables 0x19) overriding (λ row o is. ap (length {A = ℕ}) is.are) h.overrides);
      }

  properties_read : (a : Assembly) (classes : List Class) → HoldsProperties a classes r tables → ReadsProperties a classes r image
  unfolding schema
  properties_read a classes h = record {
    properties = reads_items r tables image reads 0x17 3 property_cells (IsPropertyRow r) (properties_in classes) refl (λ k. refl)
        (long_rows (IsPropertyRow r) 3 (rows_of tables 0x17) (properties_in classes) (λ row p is. ap (length {A = ℕ}) is.are) h.properties);
    events = reads_items r tables image reads 0x14 3 event_cells (IsEventRow r) (events_in classes) refl (λ k. refl)
        (long_rows (IsEventRow r) 3 (rows_of tables 0x14) (events_in classes) (λ row e is. ap (length {A = ℕ}) is.are) h.events);
    accessors = reads_items r tables image reads 0x18 3 semantics_cells (IsMade semantics_row) (accessor_items a classes) refl (λ k. refl)
        (zip_made semantics_row 3 (rows_of tables 0x18) (accessor_items a classes) h.accessors
        (all_always (λ x. length (semantics_row x) ≡ 3) (λ x. refl) (accessor_items a classes)));
  }

  owned_read : (a : Assembly) (classes : List Class) → HoldsOwned a classes r tables → ReadsOwned a classes r image
  unfolding schema
  owned_read a classes h = record {
    generics = reads_items r tables image reads 0x2A 4 generic_cells (IsGenericRow r) (generic_items a classes) refl (λ k. refl)
        (long_rows (IsGenericRow r) 4 (rows_of tables 0x2A) (generic_items a classes) (λ row g is. ap (length {A = ℕ}) is.are) h.generics);
    bounds = reads_items r tables image reads 0x2C 2 bound_cells (IsBoundRow r) (bounds_from 1 (generics_in a classes)) refl (λ k. refl)
        (long_rows (IsBoundRow r) 2 (rows_of tables 0x2C) (bounds_from 1 (generics_in a classes)) (λ row b is. ap (length {A = ℕ}) is.are) h.bounds);
    constants = reads_items r tables image reads 0x0B 4 constant_cells (IsConstantRow r) (constant_items a classes) refl (λ k. refl)
        (long_rows (IsConstantRow r) 4 (rows_of tables 0x0B) (constant_items a classes) (λ row c is. ap (length {A = ℕ}) is.are) h.constants);
    attributes = reads_items r tables image reads 0x0C 3 attribute_cells (IsAttributeRow r) (attribute_items a classes) refl (λ k. refl)
        (long_rows (IsAttributeRow r) 3 (rows_of tables 0x0C) (attribute_items a classes) (λ row x is. ap (length {A = ℕ}) is.are) h.attributes);
  }

-- all of them
pub rows_read : (a : Assembly) (classes : List Class) (r : References) (tables : Tables) (code image : List ℕ) → IsFilled a classes r tables code
    → ReadsTables r tables image → ReadsRows a classes r code image
rows_read a classes r tables code image f reads = record {
  references = references_read r tables image reads f.references;
  manifest = manifest_read r tables image reads a f.manifest;
  types = types_read r tables image reads a classes f.types;
  fields = fields_read r tables image reads a classes code f.fields;
  methods = methods_read r tables image reads a classes code f.methods;
  properties = properties_read r tables image reads a classes f.properties;
  owned = owned_read r tables image reads a classes f.owned;
}
