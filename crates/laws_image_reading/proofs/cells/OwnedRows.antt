-- The rows that belong to those of other tables: interfaces, constants, attributes, layouts, offsets, runs, accessors, overrides, data,
-- nesting and generic parameters.
use Rattle.std.proofs.Common.{◌≡◌, inr, refl, sym, subst, ℕ, zero, suc, ◌+◌, ◌<◌, Bool, true, false, true≢false, cond, List, [], ◌∷◌, map, length, Option, Some, None, arith}
use Rattle.std.specs.Prelude.{◌==◌}
use Rattle.std.specs.List.{AllByRecursion, enumerate_from}
use Rattle.assembly_tree.specs.declared.assembly.Assembly.{Assembly}
use Rattle.assembly_tree.specs.declared.members.Accessor.{Accessor}
use Rattle.assembly_tree.specs.declared.members.Attribute.{Attribute}
use Rattle.assembly_tree.specs.declared.members.Constant.{Constant}
use Rattle.assembly_tree.specs.declared.members.Event.{Event}
use Rattle.assembly_tree.specs.declared.members.Field.{Field}
use Rattle.assembly_tree.specs.declared.members.Generic.{Generic}
use Rattle.assembly_tree.specs.declared.members.Method.{Method}
use Rattle.assembly_tree.specs.declared.members.Property.{Property}
use Rattle.assembly_tree.specs.declared.typedef.Layout.{Layout}
use Rattle.assembly_tree.specs.declared.typedef.TypeDef.TheViews.{out-TypeDef}
use Rattle.metadata_tables.specs.CodedIndex.{tag_of}
use Rattle.metadata_tables.specs.Encoding.{rows_of, rows_in}
use Rattle.metadata_tables.specs.Indexes.{run_cell}
use Rattle.metadata_tables.specs.Schema.{schema, columns_of}
use Rattle.metadata_tables.specs.declared.coded.Coded.TheVariants.{TypeDefOrRef, HasConstant, HasCustomAttribute, HasSemantics, MethodDefOrRef, TypeOrMethodDef}
use Rattle.type_terms.specs.declared.reference.MethodRef.{MethodRef}
use Rattle.type_terms.specs.declared.term.Owner.{Owner}
use Rattle.laws_image_indexes.proofs.EachLemmas.{each_weaker, each_both, each_joined, each_mapped, each_all, each_flat, each_permuted}
use Rattle.laws_image_indexes.proofs.TableLemmas.{zip_all, zip_known, zip_long}
use Rattle.image_tokens.specs.Indexes.{index_of}
use Rattle.image_tokens.specs.References.{AreKnown}
use Rattle.image_tokens.specs.declared.references.References.{References}
use Rattle.image_tokens.specs.declared.row_set.Cells.{Cells}
use Rattle.image_rows.specs.AttributeRows.{IsAttributeRow}
use Rattle.image_rows.specs.ClassRows.{nested_rows, stated_rows, layout_rows}
use Rattle.image_members.specs.ConstantRows.{IsConstantRow}
use Rattle.image_members.specs.Constants.{value_of}
use Rattle.image_members.specs.DataRows.{Datum, stated_data, field_data, all_data, IsDataRow}
use Rattle.image_members.specs.DeclaredMembers.{owned, class_methods, IsMethodOf}
use Rattle.image_rows.specs.EventRows.{IsEventRow}
use Rattle.image_rows.specs.FieldRows.{stated_offset, offset_rows}
use Rattle.image_rows.specs.Filled.{IsFilled}
use Rattle.image_members.specs.GenericRows.{bounds_in, bounds_from, IsBoundRow, IsGenericRow}
use Rattle.image_rows.specs.InterfaceRows.{interfaces_from, AreInterfaceRows}
use Rattle.image_members.specs.Lists.{access_of, properties_in, events_in, generic_lists, generic_items, generics_in, attribute_lists, attribute_items, constant_lists, constant_items, accessor_lists, accessor_items, event_access, property_access, access_from, longest_of}
use Rattle.image_rows.specs.MapRows.{run_rows, map_rows, event_count, property_count}
use Rattle.image_rows.specs.OverrideRows.{Override, overrides, overrides_from, IsOverrideRow}
use Rattle.image_members.specs.Places.{all_fields, all_methods, class_properties, class_events}
use Rattle.image_rows.specs.PropertyRows.{IsPropertyRow}
use Rattle.image_members.specs.Pushing.{Tables}
use Rattle.image_rows.specs.SemanticsRows.{semantics_row}
use Rattle.image_members.specs.TypeIndexes.{IsTypeIndex}
use Rattle.image_members.specs.declared.classes.Class.{Class}
use Rattle.laws_image_reading.proofs.cells.EachLemmas.{each_by_number}
use Rattle.laws_image_reading.proofs.cells.CellLemmas.{Points, Begins, AreCells, HasCells, each_cell, named, blob_cell, begins}
use Rattle.laws_image_reading.proofs.cells.PlainRows.{AreNamed, type_cell}
use Rattle.laws_image_reading.proofs.cells.TokenRows.{by_number_points, method_points, constructor_points}

-- constructors of attributes, and methods that are overridden, have no arguments
pub record ArePlain (a : Assembly) (classes : List Class) : Type 0 where
  pub attributes : AllByRecursion (λ (x : ℕ × Attribute). x.1.constructor.args ≡ None) (attribute_items a classes)
  pub overridden : AllByRecursion (λ (m : Method). AllByRecursion (λ (o : MethodRef). o.args ≡ None) m.overrides) (all_methods a classes)

-- ---- numbers above 0

not_zero : (n : ℕ) → (n == 0) ≡ false → 0 < n
not_zero zero e = absurd (true≢false e)
not_zero (suc n) e = omega arith

low_number : {X : Type 0} (row : ℕ) (xs : List X) → 0 < row → AllByRecursion (λ n. 0 < n.0) (enumerate_from row xs)
low_number row [] some = tt
low_number row (x ∷ xs) some = (some, low_number (row + 1) xs (omega arith))

interfaces_some : (row : ℕ) (classes : List Class) → 0 < row → AllByRecursion (λ t. 0 < t.0) (interfaces_from row classes)
interfaces_some row [] some = tt
interfaces_some row (c ∷ cs) some = (some, interfaces_some (row + 1) cs (omega arith))

owned_some : (row : ℕ) (lists : List (List Method)) → 0 < row → AllByRecursion (λ (m : ℕ × Method). 0 < m.0) (owned row lists)
owned_some row [] some = tt
owned_some row (ms ∷ more) some =
    each_joined (λ (m : ℕ × Method). 0 < m.0) (map (λ (m : Method). (row, m)) ms) (owned (row + 1) more)
    (each_mapped (λ (m : ℕ × Method). 0 < m.0) (λ (m : Method). (row, m)) ms (each_all (λ (m : Method). 0 < row) ms (λ m. some))) (owned_some (row + 1) more (omega arith))

-- an override has the rows of its type and of its body, and a method without arguments
abbrev IsOver : Override → Type 0
IsOver o = (0 < o.type) × (0 < o.body) × (o.of.args ≡ None)

abbrev OverPlain : Method → Type 0
OverPlain m = AllByRecursion (λ (o : MethodRef). o.args ≡ None) m.overrides

overrides_some : (row : ℕ) (declared : List Cells) (methods : List Method) → 0 < row → AllByRecursion (λ (c : Cells). 0 < c.first) declared → AllByRecursion OverPlain methods
    → AllByRecursion IsOver (overrides_from row declared methods)
overrides_some row declared [] some h k = tt
overrides_some row [] (m ∷ ms) some h k = tt
overrides_some row (c ∷ declared) (m ∷ ms) some h k =
    each_joined IsOver (overrides c.first row m.overrides) (overrides_from (row + 1) declared ms)
    (each_mapped IsOver (λ (x : MethodRef). record { type = c.first; body = row; of = x }) m.overrides
    (each_weaker (λ (o : MethodRef). o.args ≡ None) (λ (o : MethodRef). (0 < c.first) × (0 < row) × (o.args ≡ None)) m.overrides (λ o e. (h.0, some, e)) k.0))
    (overrides_some (row + 1) declared ms (omega arith) h.1 k.1)

-- the rows of accessors' methods
abbrev IsSome : ℕ × ℕ → Type 0
IsSome x = 0 < x.1

access_some : (first : ℕ) (xs : List Accessor) → 0 < first → AllByRecursion IsSome (access_of first xs)
access_some first xs some =
    each_mapped IsSome (λ (x : Accessor). (x.kind, first + x.method)) xs (each_all (λ (x : Accessor). 0 < first + x.method) xs (λ x. omega arith))

events_some : (first : ℕ) (c : Class) → 0 < first → AllByRecursion (AllByRecursion IsSome) (event_access first c)
events_some first c some =
    each_mapped (AllByRecursion IsSome) (λ (e : Event). access_of first e.accessors) (class_events c)
    (each_all (λ (e : Event). AllByRecursion IsSome (access_of first e.accessors)) (class_events c) (λ e. access_some first e.accessors some))

properties_some : (first : ℕ) (c : Class) → 0 < first → AllByRecursion (AllByRecursion IsSome) (property_access first c)
properties_some first c some =
    each_mapped (AllByRecursion IsSome) (λ (p : Property). access_of first p.accessors) (class_properties c)
    (each_all (λ (p : Property). AllByRecursion IsSome (access_of first p.accessors)) (class_properties c) (λ p. access_some first p.accessors some))

all_some : (access : ℕ → Class → List (List (ℕ × ℕ))) → ((first : ℕ) (c : Class) → 0 < first → AllByRecursion (AllByRecursion IsSome) (access first c))
    → (first : ℕ) (classes : List Class) → 0 < first → AllByRecursion (AllByRecursion IsSome) (access_from access first classes)
all_some access f first [] some = tt
all_some access f first (c ∷ cs) some =
    each_joined (AllByRecursion IsSome) (access first c) (access_from access (first + length (class_methods c)) cs) (f first c some)
    (all_some access f (first + length (class_methods c)) cs (omega arith))

-- ---- rows

module _ (Wanted : List ℕ → Type 0) (r : References) (tables : Tables) where
  abbrev In : ℕ → List ℕ → Type 0
  In table cells = AreCells Wanted r tables (columns_of table) cells

  layout_row : (n : ℕ × Class) → 0 < n.0 → AllByRecursion (In 0x0F) (layout_rows n)
  unfolding schema
  layout_row n some = go (out-TypeDef n.1.of.now).layout where
    go : (l : Option Layout) → AllByRecursion (In 0x0F) (stated_rows n.0 l)
    go None = tt
    go (Some l) = ((tt, (tt, (some, tt))), tt)

  nested_row : (n : ℕ × Class) → 0 < n.0 → AllByRecursion (In 0x29) (nested_rows n)
  unfolding schema
  nested_row n some = go (n.1.encloser == 0) refl where
    go : (b : Bool) → (n.1.encloser == 0) ≡ b → AllByRecursion (In 0x29) (cond b [] ((n.0 ∷ n.1.encloser ∷ []) ∷ []))
    go true e = tt
    go false e = ((some, (not_zero n.1.encloser e, tt)), tt)

  offset_row : (n : ℕ × Field) → 0 < n.0 → AllByRecursion (In 0x10) (offset_rows n)
  unfolding schema
  offset_row n some = go n.1.offset where
    go : (o : Option ℕ) → AllByRecursion (In 0x10) (stated_offset n.0 o)
    go None = tt
    go (Some o) = ((tt, (some, tt)), tt)

  datum_row : (n : ℕ × Field) → 0 < n.0 → AllByRecursion (λ d. 0 < d.field) (field_data n)
  datum_row n some = go n.1.content where
    go : (o : Option (List ℕ)) → AllByRecursion (λ d. 0 < d.field) (stated_data n.0 o)
    go None = tt
    go (Some bytes) = (some, tt)

  data_row : (code cells : List ℕ) (d : Datum) → IsDataRow code cells d → 0 < d.field → In 0x1D cells
  unfolding schema
  data_row code cells d h some = subst (In 0x1D) (sym h.are) (tt, (some, tt))

  run_row : (table runs row all first count : ℕ) → all ≡ rows_in tables runs → 0 < row → 0 < first
      → ((cell : ℕ) → Begins (rows_in tables runs) cell → In table (row ∷ cell ∷ [])) → AllByRecursion (In table) (run_rows row (run_cell all first) count)
  run_row table runs row all first count e some begun f = go (count == 0) where
    go : (b : Bool) → AllByRecursion (In table) (cond b [] ((row ∷ run_cell all first ∷ []) ∷ []))
    go true = tt
    go false = (f (run_cell all first) (begins Wanted r tables runs all first e begun), tt)

  runs_rows : (table runs all : ℕ) (count : Class → ℕ) → all ≡ rows_in tables runs → ((row cell : ℕ) → 0 < row → Begins (rows_in tables runs) cell → In table (row ∷ cell ∷ []))
      → (classes : List Class) (row first : ℕ) → 0 < row → 0 < first → AllByRecursion (In table) (map_rows count all row first classes)
  runs_rows table runs all count e f [] row first some begun = tt
  runs_rows table runs all count e f (c ∷ cs) row first some begun =
      each_joined (In table) (run_rows row (run_cell all first) (count c)) (map_rows count all (row + 1) (first + count c) cs)
      (run_row table runs row all first (count c) e some begun (λ cell b. f row cell some b)) (runs_rows table runs all count e f cs (row + 1) (first + count c) (omega arith) (omega arith))

  event_run : (row cell : ℕ) → 0 < row → Begins (rows_in tables 0x14) cell → In 0x12 (row ∷ cell ∷ [])
  unfolding schema
  event_run row cell some b = (some, (b, tt))

  property_run : (row cell : ℕ) → 0 < row → Begins (rows_in tables 0x17) cell → In 0x15 (row ∷ cell ∷ [])
  unfolding schema
  property_run row cell some b = (some, (b, tt))

  constant_row : (cells : List ℕ) (c : ℕ × Constant) → IsConstantRow r cells c → Points HasConstant c.0 → In 0x0B cells
  unfolding schema
  constant_row cells c h p = subst (In 0x0B) (sym h.are) (tt, (tt, (inr p, (blob_cell Wanted r tables (value_of c.1) h.value h.value_is, tt))))

  generic_row : (cells : List ℕ) (g : ℕ × (ℕ × Generic)) → IsGenericRow r cells g → Points TypeOrMethodDef g.0 × Wanted g.1.1.name → In 0x2A cells
  unfolding schema
  generic_row cells g h k = subst (In 0x2A) (sym h.are) (tt, (tt, (inr k.0, (named Wanted r tables g.1.1.name h.name h.name_is k.1, tt))))

  accessor_row : (x : ℕ × (ℕ × ℕ)) → IsSome x.1 → Points HasSemantics x.0 → In 0x18 (semantics_row x)
  unfolding schema
  accessor_row x some p = (tt, (some, (inr p, tt)))

  body_points : (row : ℕ) → 0 < row → Points MethodDefOrRef (index_of MethodDefOrRef 0x06 row)
  unfolding tag_of
  body_points row some = record { table = 0x06; row = row; tag = 0; tagged = refl; is = refl; some = some }

  module _ (known : AreKnown r) where
    attribute_row : (cells : List ℕ) (x : ℕ × Attribute) → IsAttributeRow r cells x → Points HasCustomAttribute x.0 × (x.1.constructor.args ≡ None) → In 0x0C cells
    unfolding schema
    attribute_row cells x h k =
        subst (In 0x0C) (sym h.are)
        (inr k.0, (inr (constructor_points r known x.1.constructor h.token k.1 h.token_is), (blob_cell Wanted r tables x.1.value h.value h.value_is, tt)))

    override_row : (cells : List ℕ) (o : Override) → IsOverrideRow r cells o → IsOver o → In 0x19 cells
    unfolding schema
    override_row cells o h k =
        subst (In 0x19) (sym h.are) (k.0, (inr (body_points o.body k.1), (inr (method_points r known o.of h.token k.2 h.token_is), tt)))

    bound_row : (cells : List ℕ) (b : ℕ × Owner) → IsBoundRow r cells b → 0 < b.0 → In 0x2C cells
    unfolding schema
    bound_row cells b h some = subst (In 0x2C) (sym h.are) (some, (inr (type_cell Wanted r tables known b.1 h.type h.type_is), tt))

    interface_row : (row index : ℕ) → 0 < row → Points TypeDefOrRef index → In 0x09 (row ∷ index ∷ [])
    unfolding schema
    interface_row row index some p = (some, (inr p, tt))

    group_rows : (rows : List (List ℕ)) (t : ℕ × List Owner) → AreInterfaceRows r rows t → 0 < t.0 → AllByRecursion (In 0x09) rows
    group_rows rows t h some =
        let found : AllByRecursion (Points TypeDefOrRef) h.found = zip_all (λ index o. IsTypeIndex o r index) (Points TypeDefOrRef) h.found t.1 (λ index o x. type_cell Wanted r tables known o index x) h.each in
        let all : AllByRecursion (Points TypeDefOrRef) h.indexes = each_permuted (Points TypeDefOrRef) h.found h.indexes h.same found in
        subst (AllByRecursion (In 0x09)) (sym h.are)
        (each_mapped (In 0x09) (λ (index : ℕ). t.0 ∷ index ∷ []) h.indexes (each_weaker (Points TypeDefOrRef) (λ index. In 0x09 (t.0 ∷ index ∷ [])) h.indexes (λ index p. interface_row t.0 index some p) all))

-- ---- coded indexes of owners

constants_point : (a : Assembly) (classes : List Class) → AllByRecursion (λ (x : ℕ × Constant). Points HasConstant x.0) (constant_items a classes)
unfolding tag_of
constants_point a classes = by_number_points HasConstant (constant_lists a classes) (longest_of (constant_lists a classes)) ((0, refl), ((1, refl), ((2, refl), tt)))

generics_point : (a : Assembly) (classes : List Class) → AllByRecursion (λ (x : ℕ × (ℕ × Generic)). Points TypeOrMethodDef x.0) (generic_items a classes)
unfolding tag_of
generics_point a classes = by_number_points TypeOrMethodDef (generic_lists a classes) (longest_of (generic_lists a classes)) ((0, refl), ((1, refl), tt))

accessors_point : (a : Assembly) (classes : List Class) → AllByRecursion (λ (x : ℕ × (ℕ × ℕ)). Points HasSemantics x.0) (accessor_items a classes)
unfolding tag_of
accessors_point a classes = by_number_points HasSemantics (accessor_lists a classes) (longest_of (accessor_lists a classes)) ((0, refl), ((1, refl), tt))

attributes_point : (a : Assembly) (classes : List Class) → AllByRecursion (λ (x : ℕ × Attribute). Points HasCustomAttribute x.0) (attribute_items a classes)
unfolding tag_of
attributes_point a classes =
    by_number_points HasCustomAttribute (attribute_lists a classes) (longest_of (attribute_lists a classes))
    ((0, refl), ((1, refl), ((3, refl), ((4, refl), ((7, refl), ((9, refl), ((10, refl), ((14, refl), ((19, refl), tt)))))))))

-- ---- tables

module _ (Wanted : List ℕ → Type 0) (a : Assembly) (classes : List Class) (r : References) (tables : Tables) (code : List ℕ) (h : IsFilled a classes r tables code)
    (n : AreNamed Wanted a classes r) (p : ArePlain a classes) where
  abbrev Has : ℕ → Type 0
  Has table = HasCells Wanted r tables table

  abbrev Each : ℕ → List ℕ → Type 0
  Each table cells = AreCells Wanted r tables (columns_of table) cells

  -- the rows of a table are these
  from_rows : (table : ℕ) (rows : List (List ℕ)) → rows_of tables table ≡ rows → AllByRecursion (Each table) rows → Has table
  from_rows table rows e all = each_cell Wanted r tables table (subst (AllByRecursion (Each table)) (sym e) all)

  pub layouts : Has 0x0F
  layouts = from_rows 0x0F _ h.types.layouts
      (each_flat (λ (x : ℕ × Class). 0 < x.0) (Each 0x0F) layout_rows (enumerate_from 2 classes) (layout_row Wanted r tables) (low_number 2 classes (omega arith)))

  pub nested : Has 0x29
  nested = from_rows 0x29 _ h.types.nested
      (each_flat (λ (x : ℕ × Class). 0 < x.0) (Each 0x29) nested_rows (enumerate_from 2 classes) (nested_row Wanted r tables) (low_number 2 classes (omega arith)))

  pub offsets : Has 0x10
  offsets = from_rows 0x10 _ h.fields.offsets
      (each_flat (λ (x : ℕ × Field). 0 < x.0) (Each 0x10) offset_rows (enumerate_from 1 (all_fields a classes)) (offset_row Wanted r tables) (low_number 1 (all_fields a classes) (omega arith)))

  pub contents : Has 0x1D
  contents = each_cell Wanted r tables 0x1D
      (zip_known (IsDataRow code) (λ d. 0 < d.field) (Each 0x1D) (rows_of tables 0x1D) (all_data 1 (all_fields a classes)) (data_row Wanted r tables code) h.fields.contents
      (each_flat (λ (x : ℕ × Field). 0 < x.0) (λ d. 0 < d.field) field_data (enumerate_from 1 (all_fields a classes)) (datum_row Wanted r tables) (low_number 1 (all_fields a classes) (omega arith))))

  pub event_map : Has 0x12
  event_map = from_rows 0x12 _ h.types.event_map
      (runs_rows Wanted r tables 0x12 0x14 (length (events_in classes)) event_count (sym (zip_long (IsEventRow r) (rows_of tables 0x14) (events_in classes) h.properties.events))
      (event_run Wanted r tables) classes 2 1 (omega arith) (omega arith))

  pub property_map : Has 0x15
  property_map = from_rows 0x15 _ h.types.property_map
      (runs_rows Wanted r tables 0x15 0x17 (length (properties_in classes)) property_count (sym (zip_long (IsPropertyRow r) (rows_of tables 0x17) (properties_in classes) h.properties.properties))
      (property_run Wanted r tables) classes 2 1 (omega arith) (omega arith))

  pub constants : Has 0x0B
  constants = each_cell Wanted r tables 0x0B
      (zip_known (IsConstantRow r) (λ (x : ℕ × Constant). Points HasConstant x.0) (Each 0x0B) (rows_of tables 0x0B) (constant_items a classes) (constant_row Wanted r tables) h.owned.constants
      (constants_point a classes))

  pub generics : Has 0x2A
  generics = each_cell Wanted r tables 0x2A
      (zip_known (IsGenericRow r) (λ (x : ℕ × (ℕ × Generic)). Points TypeOrMethodDef x.0 × Wanted x.1.1.name) (Each 0x2A) (rows_of tables 0x2A) (generic_items a classes) (generic_row Wanted r tables)
      h.owned.generics
      (each_both (λ (x : ℕ × (ℕ × Generic)). Points TypeOrMethodDef x.0) (λ (x : ℕ × (ℕ × Generic)). Wanted x.1.1.name) (λ (x : ℕ × (ℕ × Generic)). Points TypeOrMethodDef x.0 × Wanted x.1.1.name)
      (generic_items a classes) (λ x q w. (q, w)) (generics_point a classes) n.generics))

  pub attributes : Has 0x0C
  attributes = each_cell Wanted r tables 0x0C
      (zip_known (IsAttributeRow r) (λ (x : ℕ × Attribute). Points HasCustomAttribute x.0 × (x.1.constructor.args ≡ None)) (Each 0x0C) (rows_of tables 0x0C) (attribute_items a classes)
      (attribute_row Wanted r tables h.known) h.owned.attributes
      (each_both (λ (x : ℕ × Attribute). Points HasCustomAttribute x.0) (λ (x : ℕ × Attribute). x.1.constructor.args ≡ None)
      (λ (x : ℕ × Attribute). Points HasCustomAttribute x.0 × (x.1.constructor.args ≡ None)) (attribute_items a classes) (λ x q e. (q, e)) (attributes_point a classes) p.attributes))

  accessors_some : AllByRecursion (λ (x : ℕ × (ℕ × ℕ)). IsSome x.1) (accessor_items a classes)
  accessors_some =
      each_by_number IsSome HasSemantics (accessor_lists a classes) (longest_of (accessor_lists a classes))
      (all_some event_access events_some (1 + length a.methods) classes (omega arith), (all_some property_access properties_some (1 + length a.methods) classes (omega arith), tt))

  pub accessors : Has 0x18
  accessors = from_rows 0x18 _ h.properties.accessors
      (each_mapped (Each 0x18) semantics_row (accessor_items a classes)
      (each_both (λ (x : ℕ × (ℕ × ℕ)). IsSome x.1) (λ (x : ℕ × (ℕ × ℕ)). Points HasSemantics x.0) (λ x. Each 0x18 (semantics_row x)) (accessor_items a classes)
      (accessor_row Wanted r tables) accessors_some (accessors_point a classes)))

  owners_some : AllByRecursion (λ (c : Cells). 0 < c.first) r.declared.methods
  owners_some =
      zip_known (IsMethodOf r) (λ (m : ℕ × Method). 0 < m.0) (λ (c : Cells). 0 < c.first) r.declared.methods (owned 1 (a.methods ∷ map class_methods classes))
      (λ c m row k. subst (λ x. 0 < x) (sym row.type_is) k) h.declared.methods (owned_some 1 (a.methods ∷ map class_methods classes) (omega arith))

  pub override_rows : Has 0x19
  override_rows = each_cell Wanted r tables 0x19
      (zip_known (IsOverrideRow r) IsOver (Each 0x19) (rows_of tables 0x19) (overrides_from 1 r.declared.methods (all_methods a classes)) (override_row Wanted r tables h.known)
      h.methods.overrides (overrides_some 1 r.declared.methods (all_methods a classes) (omega arith) owners_some p.overridden))

  pub bounds : Has 0x2C
  bounds = each_cell Wanted r tables 0x2C
      (zip_known (IsBoundRow r) (λ (b : ℕ × Owner). 0 < b.0) (Each 0x2C) (rows_of tables 0x2C) (bounds_from 1 (generics_in a classes)) (bound_row Wanted r tables h.known) h.owned.bounds
      (each_flat (λ (x : ℕ × Generic). 0 < x.0) (λ (b : ℕ × Owner). 0 < b.0) bounds_in (enumerate_from 1 (generics_in a classes))
      (λ x some. each_mapped (λ (b : ℕ × Owner). 0 < b.0) (λ (o : Owner). (x.0, o)) x.1.bounds (each_all (λ (o : Owner). 0 < x.0) x.1.bounds (λ o. some)))
      (low_number 1 (generics_in a classes) (omega arith))))

  pub interfaces : Has 0x09
  interfaces =
      let i = h.types.interfaces in
      from_rows 0x09 _ i.are
      (each_flat (λ g. AllByRecursion (Each 0x09) g) (Each 0x09) (λ (g : List (List ℕ)). g) i.groups (λ g k. k)
      (zip_known (AreInterfaceRows r) (λ t. 0 < t.0) (λ g. AllByRecursion (Each 0x09) g) i.groups (interfaces_from 2 classes) (group_rows Wanted r tables h.known) i.each
      (interfaces_some 2 classes (omega arith))))
