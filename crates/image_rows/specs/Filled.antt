-- All that an image of an assembly is made of before it is laid out: heaps and reference rows, the rows of all tables, and the code with
-- bodies and data (ECMA-335 II.22, II.24.2, II.25.4).
use Rattle.std.specs.Prelude.{◌≡◌, ℕ, ◌+◌, ◌^◌, ◌<◌, Contains, if◌then◌else◌, List, [], ◌∷◌, map, length}
use Rattle.std.specs.List.{AllZip, enumerate_from, flat_map}
use Rattle.assembly_tree.specs.declared.assembly.Assembly.{Assembly}
use Rattle.assembly_tree.specs.declared.members.Method.{Method}
use Rattle.metadata_tables.specs.Encoding.{rows_of, rows_in}
use Rattle.image_tokens.specs.References.{AreKnown}
use Rattle.image_tokens.specs.declared.references.References.{References}
use Rattle.image_tokens.specs.declared.row_set.Cells.{Cells}
use Rattle.image_rows.specs.AttributeRows.{IsAttributeRow}
use Rattle.image_rows.specs.ClassRows.{class_rows, nested_rows, layout_rows}
use Rattle.image_members.specs.Classes.{AreClasses}
use Rattle.image_members.specs.CodeBytes.{body_of, HasBody}
use Rattle.image_members.specs.ConstantRows.{IsConstantRow}
use Rattle.image_members.specs.DataRows.{all_data, IsDataRow}
use Rattle.image_members.specs.DeclaredMembers.{owned, class_fields, class_methods, IsFieldOf, IsMethodOf}
use Rattle.image_members.specs.Declaring.{places, AreDeclared}
use Rattle.image_rows.specs.EventRows.{IsEventRow}
use Rattle.image_rows.specs.FieldRows.{IsFieldRow, offset_rows}
use Rattle.image_members.specs.GenericRows.{bounds_from, IsBoundRow, IsGenericRow}
use Rattle.image_rows.specs.InterfaceRows.{interfaces_from, joined, AreInterfaceRows}
use Rattle.image_members.specs.Lists.{attribute_items, constant_items, accessor_items, generic_items, generics_in, params_in, properties_in, events_in}
use Rattle.image_members.specs.ManifestRows.{IsModuleRow, IsAssemblyRow, IsExternRow}
use Rattle.image_rows.specs.MapRows.{map_rows, event_count, property_count}
use Rattle.image_rows.specs.MethodRows.{placed_methods, IsMethodRow}
use Rattle.image_rows.specs.OverrideRows.{overrides_from, IsOverrideRow}
use Rattle.image_rows.specs.ParamRows.{IsParamRow}
use Rattle.image_members.specs.Places.{all_fields, all_methods}
use Rattle.image_rows.specs.PropertyRows.{IsPropertyRow}
use Rattle.image_members.specs.Pushing.{Tables}
use Rattle.image_rows.specs.SemanticsRows.{semantics_row}
use Rattle.image_rows.specs.TypeRows.{numbered, IsModuleType, IsTypeDefRow}
use Rattle.image_members.specs.declared.classes.Class.{Class}

-- a table has a row for each of these items, in order, and no others
abbrev pub HoldsItems : {X : Type 0} → ℕ → (References → List ℕ → X → Type 0) → List X → References → Tables → Type 0
HoldsItems table IsRow items r tables = AllZip (IsRow r) (rows_of tables table) items

-- ---- the tables of references (II.22.25, II.22.29, II.22.36, II.22.38, II.22.39)

abbrev pub three_cells : Cells → List ℕ
three_cells c = c.first ∷ c.second ∷ c.third ∷ []

abbrev pub two_cells : Cells → List ℕ
two_cells c = c.first ∷ c.second ∷ []

abbrev pub first_cell : Cells → List ℕ
first_cell c = c.first ∷ []

-- each row is written as it was made
pub record HoldsReferences (r : References) (tables : Tables) : Type 0 where
  pub names : rows_of tables 0x01 ≡ map three_cells r.referred.names
  pub members : rows_of tables 0x0A ≡ map three_cells r.referred.members
  pub locals : rows_of tables 0x11 ≡ map first_cell r.referred.locals
  pub specs : rows_of tables 0x1B ≡ map first_cell r.referred.specs
  pub instances : rows_of tables 0x2B ≡ map two_cells r.referred.instances

-- ---- declarations

-- what is declared has rows, by which names find it
pub record HasDeclared (a : Assembly) (classes : List Class) (r : References) : Type 0 where
  pub types : AreDeclared r.heaps.strings r.declared.types (places classes)
  pub fields : AllZip (IsFieldOf r) r.declared.fields (owned 1 (a.fields ∷ map class_fields classes))
  pub methods : AllZip (IsMethodOf r) r.declared.methods (owned 1 (a.methods ∷ map class_methods classes))

-- module, assembly and externs (II.22.2, II.22.5, II.22.30)
pub record HoldsManifest (a : Assembly) (r : References) (tables : Tables) : Type 0 where
  pub module_row : HoldsItems 0x00 IsModuleRow (a.manifest ∷ []) r tables
  pub assembly_row : HoldsItems 0x20 IsAssemblyRow (a.manifest ∷ []) r tables
  pub externs : HoldsItems 0x23 IsExternRow a.externs r tables

-- the rows of types: that of `<Module>`, and those of the classes
pub record HoldsTypeRows (a : Assembly) (classes : List Class) (r : References) (tables : Tables) : Type 0 where
  pub module_cells : List ℕ
  pub rows : List (List ℕ)
  pub are : rows_of tables 0x02 ≡ module_cells ∷ rows
  pub module_is : IsModuleType (length (all_fields a classes)) (length (all_methods a classes)) r module_cells
  pub each : AllZip (IsTypeDefRow (length (all_fields a classes)) (length (all_methods a classes)) r) rows (numbered (1 + length a.fields) (1 + length a.methods) classes)

-- the rows of interfaces, by type
pub record HoldsInterfaces (classes : List Class) (r : References) (tables : Tables) : Type 0 where
  pub groups : List (List (List ℕ))
  pub are : rows_of tables 0x09 ≡ joined groups
  pub each : AllZip (AreInterfaceRows r) groups (interfaces_from 2 classes)

-- types (II.22.8, II.22.12, II.22.23, II.22.32, II.22.35, II.22.37)
pub record HoldsTypes (a : Assembly) (classes : List Class) (r : References) (tables : Tables) : Type 0 where
  pub types : HoldsTypeRows a classes r tables
  pub interfaces : HoldsInterfaces classes r tables
  pub layouts : rows_of tables 0x0F ≡ class_rows layout_rows classes
  pub nested : rows_of tables 0x29 ≡ class_rows nested_rows classes
  pub event_map : rows_of tables 0x12 ≡ map_rows event_count (length (events_in classes)) 2 1 classes
  pub property_map : rows_of tables 0x15 ≡ map_rows property_count (length (properties_in classes)) 2 1 classes

-- fields, with their offsets and their data (II.22.15, II.22.16, II.22.18)
pub record HoldsFields (a : Assembly) (classes : List Class) (r : References) (tables : Tables) (code : List ℕ) : Type 0 where
  pub fields : HoldsItems 0x04 IsFieldRow (all_fields a classes) r tables
  pub offsets : rows_of tables 0x10 ≡ flat_map offset_rows (enumerate_from 1 (all_fields a classes))
  pub contents : AllZip (IsDataRow code) (rows_of tables 0x1D) (all_data 1 (all_fields a classes))

-- methods, with their bodies, their parameters and what they override (II.22.26, II.22.27, II.22.33)
pub record HoldsMethods (a : Assembly) (classes : List Class) (r : References) (tables : Tables) (code : List ℕ) : Type 0 where
  pub rvas : List ℕ
  pub bodies : AllZip (HasBody r code) rvas (map body_of (all_methods a classes))
  pub methods : AllZip (IsMethodRow (length (params_in a classes)) r) (rows_of tables 0x06) (placed_methods 1 rvas (all_methods a classes))
  pub params : HoldsItems 0x08 IsParamRow (params_in a classes) r tables
  pub overrides : HoldsItems 0x19 IsOverrideRow (overrides_from 1 r.declared.methods (all_methods a classes)) r tables

-- properties and events with their accessors (II.22.13, II.22.28, II.22.34)
pub record HoldsProperties (a : Assembly) (classes : List Class) (r : References) (tables : Tables) : Type 0 where
  pub properties : HoldsItems 0x17 IsPropertyRow (properties_in classes) r tables
  pub events : HoldsItems 0x14 IsEventRow (events_in classes) r tables
  pub accessors : rows_of tables 0x18 ≡ map semantics_row (accessor_items a classes)

-- what rows of several tables own (II.22.9, II.22.10, II.22.20, II.22.21)
pub record HoldsOwned (a : Assembly) (classes : List Class) (r : References) (tables : Tables) : Type 0 where
  pub generics : HoldsItems 0x2A IsGenericRow (generic_items a classes) r tables
  pub bounds : HoldsItems 0x2C IsBoundRow (bounds_from 1 (generics_in a classes)) r tables
  pub constants : HoldsItems 0x0B IsConstantRow (constant_items a classes) r tables
  pub attributes : HoldsItems 0x0C IsAttributeRow (attribute_items a classes) r tables

-- ---- the whole

-- the tables that rows are written of
abbrev pub written_tables : List ℕ
written_tables =
    0x00 ∷ 0x01 ∷ 0x02 ∷ 0x04 ∷ 0x06 ∷ 0x08 ∷ 0x09 ∷ 0x0A ∷ 0x0B ∷ 0x0C ∷ 0x0F ∷ 0x10 ∷ 0x11 ∷ 0x12 ∷ 0x14 ∷ 0x15 ∷ 0x17 ∷ 0x18 ∷ 0x19 ∷ 0x1B ∷ 0x1D ∷ 0x20
    ∷ 0x23 ∷ 0x29 ∷ 0x2A ∷ 0x2B ∷ 0x2C ∷ []

-- no table has 2 ^ 24 rows, and no other table has any
pub record IsFilled (a : Assembly) (classes : List Class) (r : References) (tables : Tables) (code : List ℕ) : Type 0 where
  pub classes_are : AreClasses 0 2 a.types classes
  pub known : AreKnown r
  pub declared : HasDeclared a classes r
  pub few : (table : ℕ) → rows_in tables table < 2 ^ 24
  pub others : (table : ℕ) → (Contains written_tables table → ⊥) → rows_of tables table ≡ []
  pub references : HoldsReferences r tables
  pub manifest : HoldsManifest a r tables
  pub types : HoldsTypes a classes r tables
  pub fields : HoldsFields a classes r tables code
  pub methods : HoldsMethods a classes r tables code
  pub properties : HoldsProperties a classes r tables
  pub owned : HoldsOwned a classes r tables

-- ---- the entry point (II.15.4.1.2, II.25.3.3.2)

-- the token of the first of the methods, whose rows begin at this one, that is the entry point; 0 where none is
abbrev pub entry_from : ℕ → List Method → ℕ
entry_from row [] = 0
entry_from row (m ∷ ms) = if m.entry then 0x06000000 + row else entry_from (row + 1) ms

abbrev pub entry_token : Assembly → List Class → ℕ
entry_token a classes = entry_from 1 (all_methods a classes)
