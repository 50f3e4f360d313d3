-- The indexes of heaps that the rows of a filled image have are in use, table by table.
use Rattle.std.proofs.Common.{◌≡◌, sym, ap, subst, ℕ, List, [], ◌∷◌, ◌++◌, map, length, inl, inr, arith}
use Rattle.std.specs.Prelude.{Contains}
use Rattle.std.specs.List.{AllByRecursion, AllZip}
use Rattle.assembly_tree.specs.declared.assembly.Assembly.{Assembly}
use Rattle.metadata_tables.specs.Encoding.{rows_of}
use Rattle.metadata_tables.specs.Schema.{schema}
use Rattle.image_tokens.specs.References.{IsNameRow, IsSpecRow, IsLocalsRow, IsReferredMember, IsInstanceRow}
use Rattle.image_tokens.specs.Rows.{EachRow}
use Rattle.image_tokens.specs.declared.references.References.{References}
use Rattle.image_tokens.specs.declared.row_set.Cells.{Cells}
use Rattle.image_rows.specs.AttributeRows.{IsAttributeRow}
use Rattle.image_members.specs.ConstantRows.{IsConstantRow}
use Rattle.image_rows.specs.EventRows.{IsEventRow}
use Rattle.image_rows.specs.FieldRows.{IsFieldRow}
use Rattle.image_rows.specs.Filled.{three_cells, two_cells, first_cell, written_tables, IsFilled}
use Rattle.image_members.specs.GenericRows.{IsGenericRow}
use Rattle.image_members.specs.Lists.{params_in}
use Rattle.image_members.specs.ManifestRows.{IsModuleRow, IsAssemblyRow, IsExternRow}
use Rattle.image_rows.specs.MethodRows.{IsMethodRow}
use Rattle.image_rows.specs.ParamRows.{IsParamRow}
use Rattle.image_members.specs.Places.{all_fields, all_methods}
use Rattle.image_rows.specs.PropertyRows.{IsPropertyRow}
use Rattle.image_members.specs.Pushing.{Tables}
use Rattle.image_rows.specs.TypeRows.{IsTypeDefRow}
use Rattle.image_members.specs.declared.classes.Class.{Class}
use Rattle.laws_image_parts.specs.tidiness.InUse.{AreInUse, IndexesAreInUse}
use Rattle.laws_image_parts.proofs.tidiness.ListLemmas.{all_joined, all_mapped, listed, zip_all}
use Rattle.laws_image_parts.proofs.tidiness.UsedRows.{In, by_rows, without_heaps, module_in, module_type_in, type_in, field_in, method_in, param_in, constant_in, attribute_in, event_in, property_in, assembly_in, extern_in, generic_in, name_in, member_in, locals_in, spec_in, instance_in}

-- the written tables, by their numbers

abbrev assembly_numbers : List ℕ
assembly_numbers = 0x00 ∷ 0x01 ∷ 0x02 ∷ 0x04 ∷ 0x06 ∷ 0x08 ∷ 0x09 ∷ []

abbrev member_numbers : List ℕ
member_numbers = 0x0A ∷ 0x0B ∷ 0x0C ∷ 0x0F ∷ 0x10 ∷ 0x11 ∷ 0x12 ∷ []

abbrev property_numbers : List ℕ
property_numbers = 0x14 ∷ 0x15 ∷ 0x17 ∷ 0x18 ∷ 0x19 ∷ 0x1B ∷ 0x1D ∷ []

abbrev last_numbers : List ℕ
last_numbers = 0x20 ∷ 0x23 ∷ 0x29 ∷ 0x2A ∷ 0x2B ∷ 0x2C ∷ []

module _ (r : References) (tables : Tables) where
  -- the rows of items
  items : {X : Type 0} (table : ℕ) (IsRow : List ℕ → X → Type 0) (xs : List X) → ((cells : List ℕ) (x : X) → IsRow cells x → In r table cells) → AllZip IsRow (rows_of tables table) xs
      → AreInUse r tables table
  items table IsRow xs f h = by_rows r tables table (zip_all IsRow (In r table) (rows_of tables table) xs f h)

  -- the rows of references
  referred : (table : ℕ) (Is : Cells → Type 0) (make : Cells → List ℕ) (made : List Cells) → ((c : Cells) → Is c → In r table (make c)) → EachRow Is made
      → rows_of tables table ≡ map make made → AreInUse r tables table
  referred table Is make made f each e =
      by_rows r tables table (subst (AllByRecursion (In r table)) (sym e) (all_mapped (In r table) make made (λ k c at. f c (each k c at))))

  -- tables without indexes of heaps

  abbrev Free : ℕ → Type 0
  Free table = AreInUse r tables table

  interfaces : Free 0x09
  unfolding schema
  interfaces = without_heaps r tables 0x09 (tt, (tt, tt))

  layouts : Free 0x0F
  unfolding schema
  layouts = without_heaps r tables 0x0F (tt, (tt, (tt, tt)))

  offsets : Free 0x10
  unfolding schema
  offsets = without_heaps r tables 0x10 (tt, (tt, tt))

  event_map : Free 0x12
  unfolding schema
  event_map = without_heaps r tables 0x12 (tt, (tt, tt))

  property_map : Free 0x15
  unfolding schema
  property_map = without_heaps r tables 0x15 (tt, (tt, tt))

  accessors : Free 0x18
  unfolding schema
  accessors = without_heaps r tables 0x18 (tt, (tt, (tt, tt)))

  overrides : Free 0x19
  unfolding schema
  overrides = without_heaps r tables 0x19 (tt, (tt, (tt, tt)))

  contents : Free 0x1D
  unfolding schema
  contents = without_heaps r tables 0x1D (tt, (tt, tt))

  nested : Free 0x29
  unfolding schema
  nested = without_heaps r tables 0x29 (tt, (tt, tt))

  bounds : Free 0x2C
  unfolding schema
  bounds = without_heaps r tables 0x2C (tt, (tt, tt))

module _ (a : Assembly) (classes : List Class) (r : References) (tables : Tables) (code : List ℕ) (h : IsFilled a classes r tables code) where
  abbrev Used : ℕ → Type 0
  Used table = AreInUse r tables table

  types : Used 0x02
  types =
      let t = h.types.types in
      let fields = length (all_fields a classes) in
      let methods = length (all_methods a classes) in
      by_rows r tables 0x02
      (subst (AllByRecursion (In r 0x02)) (sym t.are)
      (module_type_in r fields methods t.module_cells t.module_is, zip_all (IsTypeDefRow fields methods r) (In r 0x02) t.rows _ (type_in r fields methods) t.each))

  methods : Used 0x06
  methods = items r tables 0x06 (IsMethodRow (length (params_in a classes)) r) _ (method_in r (length (params_in a classes))) h.methods.methods

  assembly_tables : AllByRecursion Used assembly_numbers
  assembly_tables =
      let module_row = items r tables 0x00 (IsModuleRow r) _ (module_in r) h.manifest.module_row in
      let names = referred r tables 0x01 (IsNameRow r) three_cells r.referred.names (name_in r) h.known.rows.names h.references.names in
      let fields = items r tables 0x04 (IsFieldRow r) _ (field_in r) h.fields.fields in
      let params = items r tables 0x08 (IsParamRow r) _ (param_in r) h.methods.params in
      (module_row, (names, (types, (fields, (methods, (params, (interfaces r tables, tt)))))))

  member_tables : AllByRecursion Used member_numbers
  member_tables =
      let members = referred r tables 0x0A (IsReferredMember r) three_cells r.referred.members (member_in r) h.known.rows.members h.references.members in
      let constants = items r tables 0x0B (IsConstantRow r) _ (constant_in r) h.owned.constants in
      let attributes = items r tables 0x0C (IsAttributeRow r) _ (attribute_in r) h.owned.attributes in
      let locals = referred r tables 0x11 (IsLocalsRow r) first_cell r.referred.locals (locals_in r) h.known.rows.locals h.references.locals in
      (members, (constants, (attributes, (layouts r tables, (offsets r tables, (locals, (event_map r tables, tt)))))))

  property_tables : AllByRecursion Used property_numbers
  property_tables =
      let events = items r tables 0x14 (IsEventRow r) _ (event_in r) h.properties.events in
      let properties = items r tables 0x17 (IsPropertyRow r) _ (property_in r) h.properties.properties in
      let specs = referred r tables 0x1B (IsSpecRow r) first_cell r.referred.specs (spec_in r) h.known.rows.specs h.references.specs in
      (events, (property_map r tables, (properties, (accessors r tables, (overrides r tables, (specs, (contents r tables, tt)))))))

  last_tables : AllByRecursion Used last_numbers
  last_tables =
      let assembly = items r tables 0x20 (IsAssemblyRow r) _ (assembly_in r) h.manifest.assembly_row in
      let externs = items r tables 0x23 (IsExternRow r) _ (extern_in r) h.manifest.externs in
      let generics = items r tables 0x2A (IsGenericRow r) _ (generic_in r) h.owned.generics in
      let instances = referred r tables 0x2B (IsInstanceRow r) two_cells r.referred.instances (instance_in r) h.known.rows.instances h.references.instances in
      (assembly, (externs, (nested r tables, (generics, (instances, (bounds r tables, tt))))))

  each_listed : AllByRecursion Used written_tables
  each_listed =
      all_joined Used assembly_numbers (member_numbers ++ property_numbers ++ last_numbers) assembly_tables
      (all_joined Used member_numbers (property_numbers ++ last_numbers) member_tables (all_joined Used property_numbers last_numbers property_tables last_tables))

  unlisted : (table : ℕ) → (Contains written_tables table → ⊥) → Used table
  unlisted table lacks row column in_row in_column = let none = ap length (h.others table lacks) in absurd (omega arith)

  pub in_use : (table : ℕ) → Used table
  in_use table = elim (listed Used written_tables table each_listed) [ inl used ↦ used | inr lacks ↦ unlisted table lacks ]

pub indexes_in_use : IndexesAreInUse
indexes_in_use = in_use
