-- The rows of an image, by what they are made of (ECMA-335 II.22).
use Rattle.std.specs.Prelude.{◌≡◌, ℕ, ◌+◌, List, [], ◌∷◌, map, length}
use Rattle.std.specs.List.{AllZip, enumerate_from, flat_map}
use Rattle.assembly_tree.specs.declared.assembly.Assembly.{Assembly}
use Rattle.image_tokens.specs.declared.references.References.{References}
use Rattle.image_rows.specs.AttributeRows.{IsAttributeRow}
use Rattle.image_rows.specs.ClassRows.{class_rows, nested_rows, layout_rows}
use Rattle.image_members.specs.CodeBytes.{body_of, HasBody}
use Rattle.image_members.specs.ConstantRows.{IsConstantRow}
use Rattle.image_members.specs.DataRows.{all_data, IsDataRow}
use Rattle.image_rows.specs.EventRows.{IsEventRow}
use Rattle.image_rows.specs.FieldRows.{IsFieldRow, offset_rows}
use Rattle.image_rows.specs.Filled.{three_cells, two_cells, first_cell, IsFilled}
use Rattle.image_members.specs.GenericRows.{bounds_from, IsBoundRow, IsGenericRow}
use Rattle.image_rows.specs.InterfaceRows.{interfaces_from, joined, AreInterfaceRows}
use Rattle.image_members.specs.Lists.{attribute_items, constant_items, accessor_items, generic_items, generics_in, params_in, properties_in, events_in}
use Rattle.image_members.specs.ManifestRows.{IsModuleRow, IsAssemblyRow, IsExternRow}
use Rattle.image_rows.specs.MapRows.{map_rows, event_count, property_count}
use Rattle.image_rows.specs.MethodRows.{placed_methods, IsMethodRow}
use Rattle.image_rows.specs.OverrideRows.{overrides_from, IsOverrideRow}
use Rattle.image_rows.specs.ParamRows.{IsParamRow}
use Rattle.image_members.specs.Places.{all_fields, all_methods}
use Rattle.image_rows.specs.PropertyRows.{IsPropertyRow}
use Rattle.image_members.specs.Pushing.{Tables}
use Rattle.image_rows.specs.SemanticsRows.{semantics_row}
use Rattle.image_rows.specs.TypeRows.{numbered, IsModuleType, IsTypeDefRow}
use Rattle.image_members.specs.declared.classes.Class.{Class}
use Rattle.image_layout.specs.Laws.{ReadsTables}
use Rattle.image_model.specs.Rows.{count_of}
use Rattle.laws_image_parts.specs.AtRows.{AtEach, Reads}
use Rattle.laws_image_parts.specs.RowCells.{module_cells, type_ref_cells, type_cells, field_cells, method_cells, param_cells, interface_cells, member_cells, constant_cells, attribute_cells, layout_cells, offset_cells, locals_cells, event_map_cells, event_cells, property_map_cells, property_cells, semantics_cells, override_cells, type_spec_cells, data_cells, assembly_cells, extern_cells, nested_cells, generic_cells, instance_cells, bound_cells}

-- a row is as it was made
abbrev pub IsMade : {X : Type 0} → (X → List ℕ) → List ℕ → X → Type 0
IsMade make cells x = cells ≡ make x

abbrev pub row_itself : List ℕ → List ℕ
row_itself cells = cells

-- II.22.25, II.22.29, II.22.36, II.22.38, II.22.39
pub record ReadsReferences (r : References) (image : List ℕ) : Type 0 where
  pub names : Reads 0x01 type_ref_cells (IsMade three_cells) r.referred.names image
  pub members : Reads 0x0A member_cells (IsMade three_cells) r.referred.members image
  pub locals : Reads 0x11 locals_cells (IsMade first_cell) r.referred.locals image
  pub specs : Reads 0x1B type_spec_cells (IsMade first_cell) r.referred.specs image
  pub instances : Reads 0x2B instance_cells (IsMade two_cells) r.referred.instances image

-- II.22.2, II.22.5, II.22.30
pub record ReadsManifest (a : Assembly) (r : References) (image : List ℕ) : Type 0 where
  pub module_row : Reads 0x00 module_cells (IsModuleRow r) (a.manifest ∷ []) image
  pub assembly_row : Reads 0x20 assembly_cells (IsAssemblyRow r) (a.manifest ∷ []) image
  pub externs : Reads 0x23 extern_cells (IsExternRow r) a.externs image

-- II.22.37: `<Module>` has row 1, and the classes the rows from 2 on
pub record ReadsTypeRows (a : Assembly) (classes : List Class) (r : References) (image : List ℕ) : Type 0 where
  pub count : count_of image 0x02 ≡ 1 + length classes
  pub module_is : IsModuleType (length (all_fields a classes)) (length (all_methods a classes)) r (type_cells image 1)
  pub each : AtEach (λ row n. IsTypeDefRow (length (all_fields a classes)) (length (all_methods a classes)) r (type_cells image row) n) 2
      (numbered (1 + length a.fields) (1 + length a.methods) classes)

-- II.22.23
pub record ReadsInterfaces (classes : List Class) (r : References) (image : List ℕ) : Type 0 where
  pub groups : List (List (List ℕ))
  pub are : Reads 0x09 interface_cells (IsMade row_itself) (joined groups) image
  pub each : AllZip (AreInterfaceRows r) groups (interfaces_from 2 classes)

-- II.22.8, II.22.12, II.22.32, II.22.35
pub record ReadsTypes (a : Assembly) (classes : List Class) (r : References) (image : List ℕ) : Type 0 where
  pub types : ReadsTypeRows a classes r image
  pub interfaces : ReadsInterfaces classes r image
  pub layouts : Reads 0x0F layout_cells (IsMade row_itself) (class_rows layout_rows classes) image
  pub nested : Reads 0x29 nested_cells (IsMade row_itself) (class_rows nested_rows classes) image
  pub event_map : Reads 0x12 event_map_cells (IsMade row_itself) (map_rows event_count (length (events_in classes)) 2 1 classes) image
  pub property_map : Reads 0x15 property_map_cells (IsMade row_itself) (map_rows property_count (length (properties_in classes)) 2 1 classes) image

-- II.22.15, II.22.16, II.22.18
pub record ReadsFields (a : Assembly) (classes : List Class) (r : References) (code image : List ℕ) : Type 0 where
  pub fields : Reads 0x04 field_cells (IsFieldRow r) (all_fields a classes) image
  pub offsets : Reads 0x10 offset_cells (IsMade row_itself) (flat_map offset_rows (enumerate_from 1 (all_fields a classes))) image
  pub contents : Reads 0x1D data_cells (IsDataRow code) (all_data 1 (all_fields a classes)) image

-- II.22.26, II.22.27, II.22.33
pub record ReadsMethods (a : Assembly) (classes : List Class) (r : References) (code image : List ℕ) : Type 0 where
  pub rvas : List ℕ
  pub bodies : AllZip (HasBody r code) rvas (map body_of (all_methods a classes))
  pub methods : Reads 0x06 method_cells (IsMethodRow (length (params_in a classes)) r) (placed_methods 1 rvas (all_methods a classes)) image
  pub params : Reads 0x08 param_cells (IsParamRow r) (params_in a classes) image
  pub overrides : Reads 0x19 override_cells (IsOverrideRow r) (overrides_from 1 r.declared.methods (all_methods a classes)) image

-- II.22.13, II.22.28, II.22.34
pub record ReadsProperties (a : Assembly) (classes : List Class) (r : References) (image : List ℕ) : Type 0 where
  pub properties : Reads 0x17 property_cells (IsPropertyRow r) (properties_in classes) image
  pub events : Reads 0x14 event_cells (IsEventRow r) (events_in classes) image
  pub accessors : Reads 0x18 semantics_cells (IsMade semantics_row) (accessor_items a classes) image

-- II.22.9, II.22.10, II.22.20, II.22.21
pub record ReadsOwned (a : Assembly) (classes : List Class) (r : References) (image : List ℕ) : Type 0 where
  pub generics : Reads 0x2A generic_cells (IsGenericRow r) (generic_items a classes) image
  pub bounds : Reads 0x2C bound_cells (IsBoundRow r) (bounds_from 1 (generics_in a classes)) image
  pub constants : Reads 0x0B constant_cells (IsConstantRow r) (constant_items a classes) image
  pub attributes : Reads 0x0C attribute_cells (IsAttributeRow r) (attribute_items a classes) image

-- all tables
pub record ReadsRows (a : Assembly) (classes : List Class) (r : References) (code image : List ℕ) : Type 0 where
  pub references : ReadsReferences r image
  pub manifest : ReadsManifest a r image
  pub types : ReadsTypes a classes r image
  pub fields : ReadsFields a classes r code image
  pub methods : ReadsMethods a classes r code image
  pub properties : ReadsProperties a classes r image
  pub owned : ReadsOwned a classes r image

-- an image whose tables hold the rows of an assembly reads as they were made
abbrev pub RowsAreRead : Type 0
RowsAreRead =
    (a : Assembly) (classes : List Class) (r : References) (tables : Tables) (code image : List ℕ) → IsFilled a classes r tables code
    → ReadsTables r tables image → ReadsRows a classes r code image
