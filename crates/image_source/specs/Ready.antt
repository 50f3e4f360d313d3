-- What has to hold before an assembly is read of an image, by what is kept of its tokens (II.22): the demands on its rows hold, and
-- all that its rows name is kept.
use Rattle.std.specs.Prelude.{◌≡◌, ◌≢◌, ℕ, ◌≤◌, List, Some, All, Contains, length, slice_index}
use Rattle.metadata_tables.specs.declared.coded.Coded.{Coded}
use Rattle.metadata_tables.specs.declared.coded.Coded.TheVariants.{TypeDefOrRef, MethodDefOrRef, CustomAttributeType}
use Rattle.pe_layout.specs.FileMap.{readable}
use Rattle.type_terms.specs.declared.reference.MethodRef.{MethodRef}
use Rattle.type_terms.specs.declared.reference.MethodSig.{MethodSig}
use Rattle.type_terms.specs.declared.term.Owner.{Owner}
use Rattle.type_terms.specs.declared.term.SigType.{SigType}
use Rattle.assembly_tree.specs.declared.body.Body.{Body}
use Rattle.image_model.specs.Columns.{type_extends, method_rva, interface_type, attribute_type, event_type, override_declaration, data_rva, data_field, bound_type, semantics_method}
use Rattle.image_model.specs.Rows.{HasRow, Names, token_of, fields_of, methods_of, params_of, events_of, properties_of}
use Rattle.image_model.specs.Naming.{RowOwner}
use Rattle.image_model.specs.Terms.{FieldHas, MethodHas, PropertyHas}
use Rattle.image_model.specs.Members.{HasConstants, HasDataSize, semantics_of, layouts_of, offsets_of, data_of}
use Rattle.image_model.specs.Bodies.{IsBody, body_of}
use Rattle.image_model.specs.Streams.{tables_of}
use Rattle.row_parts.specs.Kinds.{AreBytes}
use Rattle.row_demands.specs.Structured.{MeetStructure}
use Rattle.image_source.specs.Names.{names_of, owner_of_row}
use Rattle.kept_names.specs.declared.names.KeptNames.{KeptNames}

-- a TypeDefOrRef index names a type that is kept
abbrev pub KeepsOwner : List ℕ → KeptNames → ℕ → Owner → Type 0
KeepsOwner image kept value owner =
    (table row : ℕ) × Names TypeDefOrRef value table row × (owner_of_row kept table row ≡ Some owner) × RowOwner image (names_of kept).owners table row owner

abbrev pub HasKeptOwner : List ℕ → KeptNames → ℕ → Type 0
HasKeptOwner image kept value = (owner : Owner) × KeepsOwner image kept value owner

-- a coded index names a method that is kept
abbrev pub KeepsMethod : KeptNames → Coded → ℕ → MethodRef → Type 0
KeepsMethod kept kind value m = (table row : ℕ) × Names kind value table row × ((names_of kept).methods (token_of table row) ≡ Some m)

abbrev pub HasKeptMethod : KeptNames → Coded → ℕ → Type 0
HasKeptMethod kept kind value = (m : MethodRef) × KeepsMethod kept kind value m

-- the types, methods and signatures that rows name
pub record AreNamed (image : List ℕ) (kept : KeptNames) : Type 0 where
  pub bases : (row : ℕ) → HasRow image 0x02 row → type_extends image row ≢ 0 → HasKeptOwner image kept (type_extends image row)
  pub interfaces : (row : ℕ) → HasRow image 0x09 row → HasKeptOwner image kept (interface_type image row)
  pub bounds : (row : ℕ) → HasRow image 0x2C row → HasKeptOwner image kept (bound_type image row)
  pub events : (row : ℕ) → HasRow image 0x14 row → HasKeptOwner image kept (event_type image row)
  pub constructors : (row : ℕ) → HasRow image 0x0C row → HasKeptMethod kept CustomAttributeType (attribute_type image row)
  pub declarations : (row : ℕ) → HasRow image 0x19 row → HasKeptMethod kept MethodDefOrRef (override_declaration image row)
  pub fields : (row : ℕ) → HasRow image 0x04 row → (of : SigType) × FieldHas image (names_of kept) row of
  pub methods : (row : ℕ) → HasRow image 0x06 row → (sig : MethodSig) × MethodHas image (names_of kept) row sig
  pub properties : (row : ℕ) → HasRow image 0x17 row → (sig : MethodSig) × PropertyHas image (names_of kept) row sig
  pub bodies : (row : ℕ) → HasRow image 0x06 row → method_rva image row ≢ 0 → (body : Body) × IsBody (names_of kept) (body_of image row) body

-- what belongs to a row in another table
pub record AreOwned (image : List ℕ) : Type 0 where
  pub fields : (type row : ℕ) → HasRow image 0x02 type → Contains (fields_of image type) row → HasRow image 0x04 row
  pub methods : (type row : ℕ) → HasRow image 0x02 type → Contains (methods_of image type) row → HasRow image 0x06 row
  pub params : (method row : ℕ) → HasRow image 0x06 method → Contains (params_of image method) row → HasRow image 0x08 row
  pub events : (type row : ℕ) → HasRow image 0x02 type → Contains (events_of image type) row → HasRow image 0x14 row
  pub properties : (type row : ℕ) → HasRow image 0x02 type → Contains (properties_of image type) row → HasRow image 0x17 row
  pub field_constants : (row : ℕ) → HasRow image 0x04 row → HasConstants image 0x04 row
  pub param_constants : (row : ℕ) → HasRow image 0x08 row → HasConstants image 0x08 row
  pub property_constants : (row : ℕ) → HasRow image 0x17 row → HasConstants image 0x17 row
  pub layouts : (row : ℕ) → HasRow image 0x02 row → length (layouts_of image row) ≤ 1
  pub offsets : (row : ℕ) → HasRow image 0x04 row → length (offsets_of image row) ≤ 1
  pub one_data : (row : ℕ) → HasRow image 0x04 row → length (data_of image row) ≤ 1
  pub event_accessors : (type row : ℕ) → HasRow image 0x02 type → Contains (events_of image type) row → All (λ k. Contains (methods_of image type) (semantics_method image k)) (semantics_of image 0x14 row)
  pub property_accessors : (type row : ℕ) → HasRow image 0x02 type → Contains (properties_of image type) row → All (λ k. Contains (methods_of image type) (semantics_method image k)) (semantics_of image 0x17 row)

-- of each row of FieldRVA how many bytes the type of its field has in data, which are there
abbrev pub AreSizes : List ℕ → KeptNames → List ℕ → Type 0
AreSizes image kept sizes =
    (row : ℕ) → HasRow image 0x1D row → (of : SigType) × FieldHas image (names_of kept) (data_field image row) of
    × HasDataSize image of (slice_index sizes row) × (slice_index sizes row ≤ length (readable image (data_rva image row)))

pub record IsReady (image : List ℕ) (kept : KeptNames) (sizes : List ℕ) : Type 0 where
  pub bytes : AreBytes (tables_of image)
  pub structure : MeetStructure image
  pub named : AreNamed image kept
  pub owned : AreOwned image
  pub sizes_are : AreSizes image kept sizes
