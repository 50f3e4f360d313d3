-- The rows that must be there, and that of `<Module>`.
use Rattle.std.proofs.Common.{◌≡◌, ap, refl, sym, ◌∙◌, ℕ, ◌-◌, ◌<◌, ◌==◌, eqb, List, [], ◌∷◌, length, Some, inl, arith, ⊎_elim}
use Rattle.std.specs.Prelude.{slice_get, filter}
use Rattle.std.specs.List.{AllZip}
use Rattle.std.proofs.lemmas.Bool.{cases_Bool}
use Rattle.assembly_tree.specs.declared.assembly.Assembly.{Assembly}
use Rattle.assembly_tree.specs.declared.members.Attribute.{Attribute}
use Rattle.assembly_tree.specs.declared.members.Generic.{Generic}
use Rattle.metadata_tables.specs.CodedIndex.{tag_of}
use Rattle.metadata_tables.specs.declared.coded.Coded.TheVariants.{HasCustomAttribute, TypeOrMethodDef}
use Rattle.image_tokens.specs.Indexes.{index_of}
use Rattle.image_tokens.specs.declared.references.References.{References}
use Rattle.image_rows.specs.AttributeRows.{IsAttributeRow}
use Rattle.image_rows.specs.ClassRows.{class_rows, nested_rows}
use Rattle.image_members.specs.Classes.{AreClasses}
use Rattle.image_members.specs.Declaring.{module_place}
use Rattle.image_members.specs.GenericRows.{IsGenericRow}
use Rattle.image_rows.specs.InterfaceRows.{joined}
use Rattle.image_members.specs.Lists.{Owned, longest_of, attribute_lists, attribute_items, generic_lists, generic_items, properties_in, events_in}
use Rattle.image_rows.specs.MapRows.{event_count, property_count}
use Rattle.image_members.specs.declared.classes.Class.{Class}
use Rattle.image_model.specs.Columns.{attribute_parent, generic_owner, interface_class, property_map_parent, event_map_parent, nested_class, enclosing_class}
use Rattle.image_model.specs.Rows as model
use Rattle.image_model.specs.Rows.{rows_with}
use Rattle.image_model.specs.Structure.{IsModuleType, HasManifest, HasNoneInModule}
use Rattle.laws_image_parts.specs.AtRows.{IsItem}
use Rattle.laws_image_parts.specs.RowCells.{attribute_cells, generic_cells, interface_cells, property_map_cells, event_map_cells, nested_cells}
use Rattle.laws_image_parts.specs.RowsRead.{IsMade, row_itself, ReadsRows}
use Rattle.laws_image_parts.proofs.ByNumberLemmas.{lists_of, HaveTags, owns, own_items}
use Rattle.laws_image_parts.proofs.CellLemmas.{get_low}
use Rattle.laws_image_parts.proofs.OwnedLemmas.{reads_with}
use Rattle.laws_image_parts.specs.names.Paths.{PathsRead}
use Rattle.laws_image_reading.proofs.order.ItemRising.{anything, never, cell_at, interfaces_rise, nested_rise}
use Rattle.laws_image_reading.proofs.order.MapPairs.{map_pairs, pair_cells, type_in, reads_pairs, pairs_rise}
use Rattle.laws_image_reading.proofs.order.Nesting.{nested_item, enclosers_are}
use Rattle.laws_image_reading.proofs.order.RowOrder.{item_of, none_below, not_below, no_rows_with}

-- nothing stands beside nothing
none_beside : {X : Type 0} (P : ℕ → X → Type 0) (rows : List ℕ) (xs : List X) → xs ≡ [] → AllZip P rows xs → rows ≡ []
none_beside P [] xs e h = refl
none_beside P (k ∷ ks) [] e h = absurd h
none_beside P (k ∷ ks) (x ∷ xs) e h = absurd cc

-- a table with so many rows is no longer than the longest
longest_has : {X : Type 0} (table k : ℕ) (tables : List (Owned X)) (xs : List X) → slice_get (lists_of table tables) k ≡ Some xs → k < longest_of tables
longest_has table k [] xs at = absurd cc
longest_has {X} table k (t ∷ more) xs at =
    ⊎_elim
    (λ h.
    let here : slice_get t.1 k ≡ Some xs = rw h at at in
    let low = get_low t.1 k xs here in
    omega arith)
    (λ h.
    let there : slice_get (lists_of table more) k ≡ Some xs = rw h at at in
    let low = longest_has table k more xs there in
    omega arith)
    (cases_Bool (eqb t.0 table))

module _ (a : Assembly) (classes : List Class) (r : References) (code image : List ℕ) (h : ReadsRows a classes r code image) where
  attribute_tags : HaveTags HasCustomAttribute (attribute_lists a classes)
  unfolding tag_of
  attribute_tags = ((0, refl), ((1, refl), ((3, refl), ((4, refl), ((7, refl), ((9, refl), ((10, refl), ((14, refl), ((19, refl), tt)))))))))

  generic_tags : HaveTags TypeOrMethodDef (generic_lists a classes)
  unfolding tag_of
  generic_tags = ((0, refl), ((1, refl), tt))

  no_attributes : rows_with image 0x0C attribute_parent (index_of HasCustomAttribute 0x02 1) ≡ []
  unfolding tag_of
  no_attributes =
      let v = index_of HasCustomAttribute 0x02 1 in
      let tables = attribute_lists a classes in
      let P : ℕ → ℕ × Attribute → Type 0 = (λ j x. IsAttributeRow r (attribute_cells image j) x × IsItem (attribute_items a classes) j x) in
      let found = reads_with 0x0C attribute_cells (IsAttributeRow r) (attribute_items a classes) image h.owned.attributes attribute_parent v (owns v) (λ j x is. ap (λ cs. cell_at 0 cs == v) is.are) in
      let none = own_items HasCustomAttribute 0x02 0 (3, refl) tables attribute_tags refl (longest_of tables) (longest_has 0x02 0 tables [] refl) in
      none_beside P (rows_with image 0x0C attribute_parent v) (filter (owns v) (attribute_items a classes)) none found

  no_generics : rows_with image 0x2A generic_owner (index_of TypeOrMethodDef 0x02 1) ≡ []
  unfolding tag_of
  no_generics =
      let v = index_of TypeOrMethodDef 0x02 1 in
      let tables = generic_lists a classes in
      let P : ℕ → ℕ × (ℕ × Generic) → Type 0 = (λ j x. IsGenericRow r (generic_cells image j) x × IsItem (generic_items a classes) j x) in
      let found = reads_with 0x2A generic_cells (IsGenericRow r) (generic_items a classes) image h.owned.generics generic_owner v (owns v) (λ j x is. ap (λ cs. cell_at 2 cs == v) is.are) in
      let none = own_items TypeOrMethodDef 0x02 0 (0, refl) tables generic_tags refl (longest_of tables) (longest_has 0x02 0 tables [] refl) in
      none_beside P (rows_with image 0x2A generic_owner v) (filter (owns v) (generic_items a classes)) none found

  no_interfaces : rows_with image 0x09 interface_class 1 ≡ []
  no_interfaces =
      let groups = h.types.interfaces.groups in
      none_below 0x09 interface_cells (IsMade row_itself) (joined groups) image h.types.interfaces.are (cell_at 0) anything 2 (interfaces_rise r 2 classes groups h.types.interfaces.each) interface_class
      (λ row cells is. ap (cell_at 0) is) 1 (omega arith)

  no_properties : HasNoneInModule image 0x15 property_map_parent model.properties_in
  no_properties map there e =
      let all = length (properties_in classes) in
      absurd (not_below 0x15 property_map_cells (IsMade (pair_cells all)) (map_pairs property_count 2 1 classes) image
      (reads_pairs 0x15 property_map_cells property_count all classes image h.types.property_map) type_in never 2 (pairs_rise property_count 2 1 classes) property_map_parent
      (λ row p is. ap (cell_at 0) is) 1 (omega arith) map there e)

  no_events : HasNoneInModule image 0x12 event_map_parent model.events_in
  no_events map there e =
      let all = length (events_in classes) in
      absurd (not_below 0x12 event_map_cells (IsMade (pair_cells all)) (map_pairs event_count 2 1 classes) image
      (reads_pairs 0x12 event_map_cells event_count all classes image h.types.event_map) type_in never 2 (pairs_rise event_count 2 1 classes) event_map_parent
      (λ row p is. ap (cell_at 0) is) 1 (omega arith) map there e)

  not_nested : rows_with image 0x29 nested_class 1 ≡ []
  not_nested =
      none_below 0x29 nested_cells (IsMade row_itself) (class_rows nested_rows classes) image h.types.nested (cell_at 0) never 2 (nested_rise classes) nested_class
      (λ row cells is. ap (cell_at 0) is) 1 (omega arith)

  module _ (are : AreClasses 0 2 a.types classes) where
    not_enclosing : rows_with image 0x29 enclosing_class 1 ≡ []
    not_enclosing =
        no_rows_with image 0x29 enclosing_class 1
        (λ row there e.
        let one = item_of 0x29 nested_cells (IsMade row_itself) (class_rows nested_rows classes) image h.types.nested row there in
        let it = nested_item 2 classes (row - 1) one.0 one.1 in
        let outer : it.class.encloser ≡ 1 = sym (ap (cell_at 1) one.2 ∙ ap (cell_at 1) it.are) ∙ e in
        ⊎_elim (λ none. omega arith) (λ high. omega arith) (enclosers_are are (inl refl) (omega arith) it.place it.class it.at))

    module_type : PathsRead classes r image → IsModuleType image
    module_type paths =
        let place = paths.places_are 0 module_place refl in
        record {
          name = place.id.name;
          space = place.id.space;
          no_base = ap (cell_at 3) h.types.types.module_is.are;
          no_properties = no_properties;
          no_events = no_events;
          no_interfaces = no_interfaces;
          no_attributes = no_attributes;
          no_generics = no_generics;
          not_nested = not_nested;
          not_enclosing = not_enclosing;
        }

    pub has_manifest : PathsRead classes r image → (table row : ℕ) → HasManifest image table row
    has_manifest paths table row = record {
      one_module = λ is number. h.manifest.module_row.count;
      some_types = λ is number. let count = h.types.types.count in omega arith;
      module_type = λ is number. module_type paths;
      one_assembly = λ is number. h.manifest.assembly_row.count;
    }
