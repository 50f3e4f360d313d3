-- Rows that belong to one row of another table, found by a column: layouts, offsets, data, bounds, overrides and interfaces
-- (ECMA-335 II.22.8, II.22.16, II.22.18, II.22.21, II.22.23, II.22.27).
use Rattle.std.specs.Prelude.{◌≡◌, ℕ, List, [], ◌∷◌, map, Option, None, Some}
use Rattle.std.specs.List.{AllZip}
use Rattle.std.specs.List.Sorted.{IsPermutation, IsNonDecreasing}
use Rattle.assembly_tree.specs.declared.assembly.Assembly.{Assembly}
use Rattle.assembly_tree.specs.declared.members.Field.{Field}
use Rattle.assembly_tree.specs.declared.members.Generic.{Generic}
use Rattle.assembly_tree.specs.declared.members.Method.{Method}
use Rattle.assembly_tree.specs.declared.typedef.Layout.{Layout}
use Rattle.assembly_tree.specs.declared.typedef.TypeDef.TheViews.{out-TypeDef}
use Rattle.metadata_tables.specs.declared.coded.Coded.TheVariants.{MethodDefOrRef}
use Rattle.type_terms.specs.declared.reference.MethodRef.{MethodRef}
use Rattle.type_terms.specs.declared.term.Owner.{Owner}
use Rattle.image_tokens.specs.declared.references.References.{References}
use Rattle.image_members.specs.DataRows.{IsDataRow}
use Rattle.image_members.specs.DeclaredMembers.{owned, class_methods}
use Rattle.image_rows.specs.Filled.{HasDeclared}
use Rattle.image_members.specs.GenericRows.{IsBoundRow}
use Rattle.image_rows.specs.InterfaceRows.{class_interfaces, AreIndexes}
use Rattle.image_members.specs.Lists.{generics_in}
use Rattle.image_rows.specs.OverrideRows.{IsOverrideRow}
use Rattle.image_members.specs.Places.{all_fields, all_methods}
use Rattle.image_members.specs.declared.classes.Class.{Class}
use Rattle.image_model.specs.Columns.{layout_parent, offset_field, data_field, bound_parameter, override_body, interface_class}
use Rattle.image_model.specs.Rows.{rows_with, index_of}
use Rattle.laws_image_parts.specs.AtRows.{AtEach, IsItem}
use Rattle.laws_image_parts.specs.RowCells.{layout_cells, offset_cells, data_cells, bound_cells, override_cells, interface_cells}
use Rattle.laws_image_parts.specs.RowsRead.{ReadsTypes, ReadsFields, ReadsMethods, ReadsOwned}

-- what is there, as a list
abbrev pub stated : {X : Type 0} → Option X → List X
stated None = []
stated (Some x) = x ∷ []

-- the row of a type's layout, where it has one
abbrev pub LayoutOf : List ℕ → ℕ → Option Layout → Type 0
LayoutOf image type layout = AllZip (λ k (l : Layout). layout_cells image k ≡ l.pack ∷ l.size ∷ type ∷ []) (rows_with image 0x0F layout_parent type) (stated layout)

-- the row of a field's offset, where it has one
abbrev pub OffsetOf : List ℕ → ℕ → Option ℕ → Type 0
OffsetOf image field offset = AllZip (λ k o. offset_cells image k ≡ o ∷ field ∷ []) (rows_with image 0x10 offset_field field) (stated offset)

-- the row of a field's data, where it has data
abbrev pub DataOf : List ℕ → List ℕ → ℕ → Option (List ℕ) → Type 0
DataOf code image field content =
    AllZip (λ k bytes. IsDataRow code (data_cells image k) (record { field = field; bytes = bytes })) (rows_with image 0x1D data_field field) (stated content)

-- the rows of a generic parameter's bounds
abbrev pub BoundsOf : References → List ℕ → ℕ → List Owner → Type 0
BoundsOf r image parameter bounds = AllZip (λ k o. IsBoundRow r (bound_cells image k) (parameter, o)) (rows_with image 0x2C bound_parameter parameter) bounds

-- the rows of what a method of a type overrides
abbrev pub OverridesOf : References → List ℕ → (type method : ℕ) → List MethodRef → Type 0
OverridesOf r image type method overridden =
    AllZip (λ k m. IsOverrideRow r (override_cells image k) (record { type = type; body = method; of = m }))
    (rows_with image 0x19 override_body (index_of MethodDefOrRef 0x06 method)) overridden

-- the rows of a type's interfaces: their coded indexes, which rise
pub record InterfacesOf (r : References) (image : List ℕ) (type : ℕ) (owners : List Owner) : Type 0 where
  pub found : List ℕ
  pub each : AreIndexes r found owners
  pub indexes : List ℕ
  pub same : IsPermutation found indexes
  pub rise : IsNonDecreasing indexes
  pub rows : AllZip (λ k index. interface_cells image k ≡ type ∷ index ∷ []) (rows_with image 0x09 interface_class type) indexes

-- ---- laws

-- `<Module>` has no layout and no interfaces
pub record TypeItemsRead (classes : List Class) (r : References) (image : List ℕ) : Type 0 where
  pub layouts : AtEach (λ type c. LayoutOf image type (out-TypeDef c.of.now).layout) 2 classes
  pub no_layout : rows_with image 0x0F layout_parent 1 ≡ []
  pub interfaces : AtEach (λ type c. InterfacesOf r image type (class_interfaces c)) 2 classes
  pub no_interfaces : rows_with image 0x09 interface_class 1 ≡ []

pub record FieldItemsRead (a : Assembly) (classes : List Class) (code image : List ℕ) : Type 0 where
  pub offsets : AtEach (λ row (f : Field). OffsetOf image row f.offset) 1 (all_fields a classes)
  pub contents : AtEach (λ row (f : Field). DataOf code image row f.content) 1 (all_fields a classes)

pub record ItemsAreRead : Type 0 where
  pub types : (a : Assembly) (classes : List Class) (r : References) (image : List ℕ) → ReadsTypes a classes r image → TypeItemsRead classes r image
  pub fields : (a : Assembly) (classes : List Class) (r : References) (code image : List ℕ) → ReadsFields a classes r code image → FieldItemsRead a classes code image
  pub bounds : (a : Assembly) (classes : List Class) (r : References) (image : List ℕ) → ReadsOwned a classes r image
      → AtEach (λ row (g : Generic). BoundsOf r image row g.bounds) 1 (generics_in a classes)
  pub overrides : (a : Assembly) (classes : List Class) (r : References) (code image : List ℕ) → HasDeclared a classes r → ReadsMethods a classes r code image
      → AtEach (λ row (m : Method). (type : ℕ) × IsItem (owned 1 (a.methods ∷ map class_methods classes)) row (type, m) × OverridesOf r image type row m.overrides)
      1 (all_methods a classes)
