-- What the rows of several tables own, found by the coded indexes of their owners: attributes, constants, generic parameters and
-- accessors (ECMA-335 II.22.9, II.22.10, II.22.20, II.22.28, II.24.2.6).
use Rattle.std.specs.Prelude.{ℕ, ◌+◌, List, length}
use Rattle.std.specs.List.{AllZip, enumerate_from}
use Rattle.assembly_tree.specs.declared.assembly.Assembly.{Assembly}
use Rattle.assembly_tree.specs.declared.members.Attribute.{Attribute}
use Rattle.assembly_tree.specs.declared.members.Constant.{Constant}
use Rattle.assembly_tree.specs.declared.members.Event.{Event}
use Rattle.assembly_tree.specs.declared.members.Field.{Field}
use Rattle.assembly_tree.specs.declared.members.Generic.{Generic}
use Rattle.assembly_tree.specs.declared.members.Method.{Method}
use Rattle.assembly_tree.specs.declared.members.Param.{Param}
use Rattle.assembly_tree.specs.declared.members.Property.{Property}
use Rattle.metadata_tables.specs.declared.coded.Coded.TheVariants.{HasConstant, HasCustomAttribute, HasSemantics, TypeOrMethodDef}
use Rattle.image_tokens.specs.declared.references.References.{References}
use Rattle.image_rows.specs.AttributeRows.{IsAttributeRow}
use Rattle.image_members.specs.ConstantRows.{IsConstantRow, stated_constant}
use Rattle.image_members.specs.GenericRows.{IsGenericRow}
use Rattle.image_members.specs.Lists.{class_attributes, class_generics, generics_in, params_in, properties_in, events_in, access_from, event_access, property_access}
use Rattle.image_members.specs.Places.{all_fields, all_methods}
use Rattle.image_rows.specs.SemanticsRows.{semantics_row}
use Rattle.image_members.specs.declared.classes.Class.{Class}
use Rattle.image_model.specs.Columns.{attribute_parent, constant_parent, generic_owner, semantics_association}
use Rattle.image_model.specs.Rows.{rows_with, index_of}
use Rattle.laws_image_parts.specs.AtRows.{AtEach, IsItem}
use Rattle.laws_image_parts.specs.RowCells.{attribute_cells, constant_cells, generic_cells, semantics_cells}
use Rattle.laws_image_parts.specs.RowsRead.{IsMade, ReadsOwned, ReadsProperties}

-- ---- attributes

-- the rows that name a row as their parent are those of its attributes, in order
abbrev pub AttributesOf : References → List ℕ → (table row : ℕ) → List Attribute → Type 0
AttributesOf r image table row attributes =
    AllZip (λ k x. IsAttributeRow r (attribute_cells image k) (index_of HasCustomAttribute table row, x))
    (rows_with image 0x0C attribute_parent (index_of HasCustomAttribute table row)) attributes

pub record AttributesRead (a : Assembly) (classes : List Class) (r : References) (image : List ℕ) : Type 0 where
  pub methods : AtEach (λ row (m : Method). AttributesOf r image 0x06 row m.attributes) 1 (all_methods a classes)
  pub fields : AtEach (λ row (f : Field). AttributesOf r image 0x04 row f.attributes) 1 (all_fields a classes)
  pub types : AtEach (λ row c. AttributesOf r image 0x02 row (class_attributes c)) 2 classes
  pub params : AtEach (λ row (p : Param). AttributesOf r image 0x08 row p.attributes) 1 (params_in a classes)
  pub module_row : AttributesOf r image 0x00 1 a.manifest.module_attributes
  pub properties : AtEach (λ row (p : Property). AttributesOf r image 0x17 row p.attributes) 1 (properties_in classes)
  pub events : AtEach (λ row (e : Event). AttributesOf r image 0x14 row e.attributes) 1 (events_in classes)
  pub assembly_row : AttributesOf r image 0x20 1 a.manifest.attributes
  pub generics : AtEach (λ row (g : Generic). AttributesOf r image 0x2A row g.attributes) 1 (generics_in a classes)

-- ---- constants

-- the rows that name a row as their parent: one where it has a constant, none where it has none
abbrev pub ConstantOf : References → List ℕ → (table row : ℕ) → List Constant → Type 0
ConstantOf r image table row constants =
    AllZip (λ k x. IsConstantRow r (constant_cells image k) (index_of HasConstant table row, x))
    (rows_with image 0x0B constant_parent (index_of HasConstant table row)) constants

pub record ConstantsRead (a : Assembly) (classes : List Class) (r : References) (image : List ℕ) : Type 0 where
  pub fields : AtEach (λ row (f : Field). ConstantOf r image 0x04 row (stated_constant f.constant)) 1 (all_fields a classes)
  pub params : AtEach (λ row (p : Param). ConstantOf r image 0x08 row (stated_constant p.constant)) 1 (params_in a classes)
  pub properties : AtEach (λ row (p : Property). ConstantOf r image 0x17 row (stated_constant p.constant)) 1 (properties_in classes)

-- ---- generic parameters

-- The rows that name a row as their owner are those of its generic parameters, with their numbers; each is its parameter's row
-- among all of them.
abbrev pub GenericsOf : Assembly → List Class → References → List ℕ → (table row : ℕ) → List Generic → Type 0
GenericsOf a classes r image table row generics =
    AllZip (λ k (x : ℕ × Generic). IsGenericRow r (generic_cells image k) (index_of TypeOrMethodDef table row, x) × IsItem (generics_in a classes) k x.1)
    (rows_with image 0x2A generic_owner (index_of TypeOrMethodDef table row)) (enumerate_from 0 generics)

pub record GenericsRead (a : Assembly) (classes : List Class) (r : References) (image : List ℕ) : Type 0 where
  pub types : AtEach (λ row c. GenericsOf a classes r image 0x02 row (class_generics c)) 2 classes
  pub methods : AtEach (λ row (m : Method). GenericsOf a classes r image 0x06 row m.generics) 1 (all_methods a classes)

-- ---- accessors

-- the rows that name a row as their association are those of its accessors: what each does, and its method's row
abbrev pub AccessorsOf : List ℕ → (table row : ℕ) → List (ℕ × ℕ) → Type 0
AccessorsOf image table row accessors =
    AllZip (λ k x. IsMade semantics_row (semantics_cells image k) (index_of HasSemantics table row, x))
    (rows_with image 0x18 semantics_association (index_of HasSemantics table row)) accessors

pub record AccessorsRead (a : Assembly) (classes : List Class) (image : List ℕ) : Type 0 where
  pub events : AtEach (AccessorsOf image 0x14) 1 (access_from event_access (1 + length a.methods) classes)
  pub properties : AtEach (AccessorsOf image 0x17) 1 (access_from property_access (1 + length a.methods) classes)

-- ---- laws

pub record OwnedAreRead : Type 0 where
  pub attributes : (a : Assembly) (classes : List Class) (r : References) (image : List ℕ) → ReadsOwned a classes r image → AttributesRead a classes r image
  pub constants : (a : Assembly) (classes : List Class) (r : References) (image : List ℕ) → ReadsOwned a classes r image → ConstantsRead a classes r image
  pub generics : (a : Assembly) (classes : List Class) (r : References) (image : List ℕ) → ReadsOwned a classes r image → GenericsRead a classes r image
  pub accessors : (a : Assembly) (classes : List Class) (r : References) (image : List ℕ) → ReadsProperties a classes r image → AccessorsRead a classes image
