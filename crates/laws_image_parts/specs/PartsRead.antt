-- Parts of an assembly as its image gives them, as far as no token is asked for its name (ECMA-335 II.22).
use Rattle.std.specs.Prelude.{◌≡◌, ℕ, true, List, length}
use Rattle.std.specs.List.{AllByRecursion, AllZip}
use Rattle.assembly_tree.specs.WellFormedMembers.{is_clear}
use Rattle.assembly_tree.specs.declared.assembly.Assembly.{Assembly}
use Rattle.assembly_tree.specs.declared.members.Accessor.{Accessor}
use Rattle.assembly_tree.specs.declared.members.Event.{Event}
use Rattle.assembly_tree.specs.declared.members.Field.{Field}
use Rattle.assembly_tree.specs.declared.members.Generic.{Generic}
use Rattle.assembly_tree.specs.declared.members.Method.{Method}
use Rattle.assembly_tree.specs.declared.members.Param.{Param}
use Rattle.assembly_tree.specs.declared.members.Property.{Property}
use Rattle.assembly_tree.specs.declared.typedef.TypeDef.TheViews.{out-TypeDef}
use Rattle.image_tokens.specs.declared.references.References.{References}
use Rattle.image_rows.specs.FieldRows.{IsFieldRow}
use Rattle.image_members.specs.GenericRows.{IsGenericRow}
use Rattle.image_members.specs.Lists.{access_of}
use Rattle.image_rows.specs.ParamRows.{IsParamRow}
use Rattle.image_rows.specs.PropertyRows.{IsPropertyRow}
use Rattle.image_rows.specs.EventRows.{IsEventRow}
use Rattle.image_members.specs.declared.classes.Class.{Class}
use Rattle.image_layout.specs.Laws.{ReadsHeaps}
use Rattle.image_model.specs.Columns.{field_flags, field_name, method_impl_flags, method_flags, method_name, param_flags, param_sequence, param_name, event_flags, event_name, property_flags, property_name, generic_flags, generic_name, type_flags, offset_of_row}
use Rattle.image_model.specs.Members.{layouts_of, offsets_of, semantics_of}
use Rattle.image_model.specs.Naming.{HasId}
use Rattle.image_model.specs.Reading.{TextIs, IsGiven, without, IsExtern, IsLayout, IsAccessor}
use Rattle.image_model.specs.Rows.{rows_of, first_method}
use Rattle.laws_image_parts.specs.ItemRows.{LayoutOf, OffsetOf}
use Rattle.laws_image_parts.specs.OwnedRows.{AccessorsOf}
use Rattle.laws_image_parts.specs.RowCells.{field_cells, param_cells, property_cells, event_cells, generic_cells}
use Rattle.laws_image_parts.specs.RowsRead.{ReadsManifest}
use Rattle.laws_image_parts.specs.RunsRead.{ClassRowIs, MethodRowIs}

-- ---- the parts

-- a name and flags, where some bits of the cell tell of rows in other tables
pub record HasHead (image : List ℕ) (name_cell flags_cell mask : ℕ) (name : List ℕ) (flags : ℕ) : Type 0 where
  pub name_is : TextIs image name_cell name
  pub flags_are : flags ≡ without flags_cell mask

pub record HasClassHead (image : List ℕ) (type : ℕ) (c : Class) : Type 0 where
  pub id : HasId image type (out-TypeDef c.of.now).id
  pub flags : (out-TypeDef c.of.now).flags ≡ type_flags image type

pub record HasMethodHead (image : List ℕ) (row : ℕ) (m : Method) : Type 0 where
  pub name : TextIs image (method_name image row) m.name
  pub flags : m.flags ≡ method_flags image row
  pub impl_flags : m.impl_flags ≡ method_impl_flags image row

pub record HasParamHead (image : List ℕ) (row : ℕ) (p : Param) : Type 0 where
  pub number : p.number ≡ param_sequence image row
  pub name_is : TextIs image (param_name image row) p.name
  pub flags : p.flags ≡ without (param_flags image row) 0x1000

pub record HasEventHead (image : List ℕ) (row : ℕ) (e : Event) : Type 0 where
  pub name : TextIs image (event_name image row) e.name
  pub flags : e.flags ≡ event_flags image row

pub record HasGenericHead (image : List ℕ) (row : ℕ) (g : Generic) : Type 0 where
  pub name : TextIs image (generic_name image row) g.name
  pub flags : g.flags ≡ generic_flags image row

-- ---- laws: what a row gives, where the heaps give what they held

pub record PartsAreRead : Type 0 where
  pub externs : (a : Assembly) (r : References) (image : List ℕ) → ReadsHeaps r image → ReadsManifest a r image
      → AllByRecursion (λ e. length e.version ≡ 4) a.externs → AllZip (IsExtern image) (rows_of image 0x23) a.externs
  pub class : (a : Assembly) (classes : List Class) (r : References) (image : List ℕ) (type : ℕ) (c : Class) → ReadsHeaps r image
      → ClassRowIs a classes r image type c → HasClassHead image type c
  pub layout : (image : List ℕ) (type : ℕ) (c : Class) → LayoutOf image type (out-TypeDef c.of.now).layout
      → IsGiven (IsLayout image) (layouts_of image type) (out-TypeDef c.of.now).layout
  pub field : (r : References) (image : List ℕ) (row : ℕ) (f : Field) → ReadsHeaps r image → IsFieldRow r (field_cells image row) f
      → is_clear 0x8100 f.flags ≡ true → HasHead image (field_name image row) (field_flags image row) 0x8100 f.name f.flags
  pub offset : (image : List ℕ) (row : ℕ) (f : Field) → OffsetOf image row f.offset
      → IsGiven (λ k offset. offset ≡ offset_of_row image k) (offsets_of image row) f.offset
  pub method : (a : Assembly) (classes : List Class) (r : References) (code image : List ℕ) (row : ℕ) (m : Method) → ReadsHeaps r image
      → MethodRowIs a classes r code image row m → HasMethodHead image row m
  pub param : (r : References) (image : List ℕ) (row : ℕ) (p : Param) → ReadsHeaps r image → IsParamRow r (param_cells image row) p
      → is_clear 0x1000 p.flags ≡ true → HasParamHead image row p
  pub property : (r : References) (image : List ℕ) (row : ℕ) (p : Property) → ReadsHeaps r image → IsPropertyRow r (property_cells image row) p
      → is_clear 0x1000 p.flags ≡ true → HasHead image (property_name image row) (property_flags image row) 0x1000 p.name p.flags
  pub event : (r : References) (image : List ℕ) (row : ℕ) (e : Event) → ReadsHeaps r image → IsEventRow r (event_cells image row) e → HasEventHead image row e
  pub generic : (r : References) (image : List ℕ) (row : ℕ) (g : ℕ × (ℕ × Generic)) → ReadsHeaps r image → IsGenericRow r (generic_cells image row) g
      → HasGenericHead image row g.1.1
  pub accessors : (image : List ℕ) (table type row : ℕ) (accessors : List Accessor) → AccessorsOf image table row (access_of (first_method image type) accessors)
      → AllZip (IsAccessor image type) (semantics_of image table row) accessors
