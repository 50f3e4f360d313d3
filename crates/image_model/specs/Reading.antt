-- How an image reads as an assembly (II.22): each part of the tree from its rows, by what the tokens of the image name.
use Rattle.std.specs.Prelude.{◌≡◌, ◌≢◌, ℕ, ◌+◌, ◌-◌, ◌⊎◌, ◌↔◌, true, bit_and, List, [], ◌∷◌, Option, Some, None, Contains, take}
use Rattle.std.specs.List.{AllZip}
use Rattle.std.specs.declared.cmp.Ordering.TheVariants.{Less}
use Rattle.heaps.specs.Content.{HasText, HasBlob}
use Rattle.pe_layout.specs.CliHeader.{cor_flags_of, entry_token_of}
use Rattle.pe_layout.specs.FileMap.{readable}
use Rattle.pe_layout.specs.Headers.{image_base_of, file_alignment_of, stack_reserve_of, subsystem_of}
use Rattle.pe_layout.specs.Numbers.{IsImageBase, IsFileAlignment}
use Rattle.metadata_tables.specs.declared.coded.Coded.TheVariants.{TypeDefOrRef, HasCustomAttribute, MethodDefOrRef, CustomAttributeType}
use Rattle.type_terms.specs.Order.{owner_order}
use Rattle.type_terms.specs.declared.reference.MethodRef.{MethodRef}
use Rattle.type_terms.specs.declared.term.Owner.{Owner}
use Rattle.type_terms.specs.declared.term.SigType.{SigType}
use Rattle.assembly_tree.specs.declared.assembly.Assembly.{Assembly}
use Rattle.assembly_tree.specs.declared.assembly.ExternAssembly.{ExternAssembly}
use Rattle.assembly_tree.specs.declared.assembly.Manifest.{Manifest}
use Rattle.assembly_tree.specs.declared.body.Body.{Body}
use Rattle.assembly_tree.specs.declared.members.Accessor.{Accessor}
use Rattle.assembly_tree.specs.declared.members.Attribute.{Attribute}
use Rattle.assembly_tree.specs.declared.members.Event.{Event}
use Rattle.assembly_tree.specs.declared.members.Field.{Field}
use Rattle.assembly_tree.specs.declared.members.Generic.{Generic}
use Rattle.assembly_tree.specs.declared.members.Method.{Method}
use Rattle.assembly_tree.specs.declared.members.Param.{Param}
use Rattle.assembly_tree.specs.declared.members.Property.{Property}
use Rattle.assembly_tree.specs.declared.typedef.Layout.{Layout}
use Rattle.assembly_tree.specs.declared.typedef.TypeDef.{TypeDef}
use Rattle.assembly_tree.specs.declared.typedef.TypeDef.TheOpen.{TypeDef-F}
use Rattle.assembly_tree.specs.declared.typedef.TypeDef.TheViews.{out-TypeDef}
use Rattle.image_model.specs.Streams.{strings_of, blobs_of}
use Rattle.image_model.specs.Columns.{module_name, type_flags, type_extends, field_flags, field_name, method_rva, method_impl_flags, method_flags, method_name, param_flags, param_sequence, param_name, interface_class, interface_type, attribute_parent, attribute_type, attribute_value, layout_pack, layout_size, offset_of_row, event_flags, event_name, event_type, property_flags, property_name, semantics_kind, semantics_method, override_body, override_declaration, data_rva, assembly_hash, assembly_major, assembly_minor, assembly_build, assembly_revision, assembly_flags, assembly_key, assembly_name, assembly_culture, extern_major, extern_minor, extern_build, extern_revision, extern_flags, extern_key, extern_name, extern_culture, extern_hash, generic_flags, generic_name, bound_parameter, bound_type}
use Rattle.image_model.specs.Rows.{rows_of, rows_with, index_of, token_of, Names, first_method, fields_of, methods_of, params_of, events_of, properties_of, types_in}
use Rattle.body_codec.specs.Names.{NameMap}
use Rattle.image_model.specs.Naming.{HasId, RowOwner}
use Rattle.image_model.specs.Terms.{FieldHas, MethodHas, PropertyHas}
use Rattle.image_model.specs.Members.{constants_of, semantics_of, generics_of, layouts_of, offsets_of, data_of, ConstantIs, HasDataSize}
use Rattle.image_model.specs.Bodies.{IsBody}

-- ---- general words

abbrev pub TextIs : List ℕ → ℕ → List ℕ → Type 0
TextIs image index text = HasText (strings_of image) index text

abbrev pub BlobIs : List ℕ → ℕ → List ℕ → Type 0
BlobIs image index blob = HasBlob (blobs_of image) index blob

-- what is given by the one row of a list, where there is one
abbrev pub IsGiven : {X : Type 0} → (ℕ → X → Type 0) → List ℕ → Option X → Type 0
IsGiven Is [] None = Unit {0}
IsGiven Is [] (Some x) = ⊥
IsGiven Is (row ∷ rows) None = ⊥
IsGiven Is (row ∷ rows) (Some x) = Is row x

-- flags without those that a row in another table tells
abbrev pub without : ℕ → ℕ → ℕ
without flags other = flags - bit_and flags other

-- a TypeDefOrRef index names an owner
abbrev pub OwnerIs : List ℕ → NameMap → ℕ → Owner → Type 0
OwnerIs image names value owner =
    (table row : ℕ) × Names TypeDefOrRef value table row × RowOwner image names.owners table row owner

-- a MethodDefOrRef index names a method
abbrev pub MethodIs : NameMap → ℕ → MethodRef → Type 0
MethodIs names value method =
    (table row : ℕ) × Names MethodDefOrRef value table row × (names.methods (token_of table row) ≡ Some method)

-- ---- attributes (II.22.10)

pub record IsAttribute (image : List ℕ) (names : NameMap) (row : ℕ) (a : Attribute) : Type 0 where
  pub table : ℕ
  pub constructor_row : ℕ
  pub coded : Names CustomAttributeType (attribute_type image row) table constructor_row
  pub constructor : names.methods (token_of table constructor_row) ≡ Some a.constructor
  pub value : BlobIs image (attribute_value image row) a.value

-- the attributes of a row, in row order
abbrev pub AttributesAre : List ℕ → NameMap → ℕ → ℕ → List Attribute → Type 0
AttributesAre image names table row attributes =
    AllZip (IsAttribute image names) (rows_with image 0x0C attribute_parent (index_of HasCustomAttribute table row)) attributes

-- ---- the manifest (II.22.2, II.22.30) and the externs (II.22.5)

-- the header's number where it may stand in an assembly, else the default
abbrev pub ImageBaseIs : ℕ → ℕ → Type 0
ImageBaseIs header base = (IsImageBase header × (base ≡ header)) ⊎ ((IsImageBase header → ⊥) × (base ≡ 0x400000))

abbrev pub FileAlignmentIs : ℕ → ℕ → Type 0
FileAlignmentIs header alignment =
    (IsFileAlignment header × (alignment ≡ header)) ⊎ ((IsFileAlignment header → ⊥) × (alignment ≡ 0x200))

-- the flag of a signed image isn't kept
pub record IsManifest (image : List ℕ) (names : NameMap) (m : Manifest) : Type 0 where
  pub name : TextIs image (assembly_name image 1) m.name
  pub version : m.version ≡ assembly_major image 1 ∷ assembly_minor image 1 ∷ assembly_build image 1 ∷ assembly_revision image 1 ∷ []
  pub flags : m.flags ≡ assembly_flags image 1
  pub key : BlobIs image (assembly_key image 1) m.key
  pub culture : TextIs image (assembly_culture image 1) m.culture
  pub hash : m.hash ≡ assembly_hash image 1
  pub module_name_is : TextIs image (module_name image 1) m.module
  pub image_base : ImageBaseIs (image_base_of image) m.image_base
  pub file_alignment : FileAlignmentIs (file_alignment_of image) m.file_alignment
  pub stack_reserve : m.stack_reserve ≡ stack_reserve_of image
  pub subsystem : m.subsystem ≡ subsystem_of image
  pub cor_flags : m.cor_flags ≡ without (cor_flags_of image) 8
  pub attributes : AttributesAre image names 0x20 1 m.attributes
  pub module_attributes : AttributesAre image names 0x00 1 m.module_attributes

pub record IsExtern (image : List ℕ) (row : ℕ) (e : ExternAssembly) : Type 0 where
  pub name : TextIs image (extern_name image row) e.name
  pub version : e.version ≡ extern_major image row ∷ extern_minor image row ∷ extern_build image row ∷ extern_revision image row ∷ []
  pub flags : e.flags ≡ extern_flags image row
  pub key : BlobIs image (extern_key image row) e.key
  pub culture : TextIs image (extern_culture image row) e.culture
  pub hash : BlobIs image (extern_hash image row) e.hash

-- ---- generic parameters (II.22.20, II.22.21)

pub record IsGeneric (image : List ℕ) (names : NameMap) (row : ℕ) (g : Generic) : Type 0 where
  pub name : TextIs image (generic_name image row) g.name
  pub flags : g.flags ≡ generic_flags image row
  pub bounds : AllZip (λ k. OwnerIs image names (bound_type image k)) (rows_with image 0x2C bound_parameter row) g.bounds
  pub attributes : AttributesAre image names 0x2A row g.attributes

abbrev pub GenericsAre : List ℕ → NameMap → ℕ → ℕ → List Generic → Type 0
GenericsAre image names table row generics = AllZip (IsGeneric image names) (generics_of image table row) generics

-- ---- fields (II.22.15)

-- the first bytes of the data, as many as the field's type has (II.22.18)
pub record IsContent (image : List ℕ) (of : SigType) (row : ℕ) (bytes : List ℕ) : Type 0 where
  pub size : ℕ
  pub has_size : HasDataSize image of size
  pub bytes_are : bytes ≡ take size (readable image (data_rva image row))

-- HasDefault and HasFieldRVA aren't kept
pub record IsField (image : List ℕ) (names : NameMap) (row : ℕ) (f : Field) : Type 0 where
  pub name : TextIs image (field_name image row) f.name
  pub flags : f.flags ≡ without (field_flags image row) 0x8100
  pub of : FieldHas image names row f.of
  pub constant : IsGiven (ConstantIs image) (constants_of image 0x04 row) f.constant
  pub offset : IsGiven (λ k offset. offset ≡ offset_of_row image k) (offsets_of image row) f.offset
  pub content : IsGiven (IsContent image f.of) (data_of image row) f.content
  pub attributes : AttributesAre image names 0x04 row f.attributes

-- ---- methods (II.22.26)

-- the name of the result isn't kept, nor is HasDefault (II.22.33)
pub record IsParam (image : List ℕ) (names : NameMap) (row : ℕ) (p : Param) : Type 0 where
  pub number : p.number ≡ param_sequence image row
  pub flags : p.flags ≡ without (param_flags image row) 0x1000
  pub result_name : p.number ≡ 0 → p.name ≡ []
  pub name : p.number ≢ 0 → TextIs image (param_name image row) p.name
  pub constant : IsGiven (ConstantIs image) (constants_of image 0x08 row) p.constant
  pub attributes : AttributesAre image names 0x08 row p.attributes

-- the rows of MethodImpl whose body is a method (II.22.27)
abbrev pub overrides_of : List ℕ → ℕ → List ℕ
overrides_of image method = rows_with image 0x19 override_body (index_of MethodDefOrRef 0x06 method)

-- at the RVA of a method its body stands; at 0 it has none
abbrev pub BodyIs : List ℕ → NameMap → ℕ → Option Body → Type 0
BodyIs image names rva None = rva ≡ 0
BodyIs image names rva (Some body) = (rva ≢ 0) × IsBody names (readable image rva) body

pub record IsMethod (image : List ℕ) (names : NameMap) (row : ℕ) (m : Method) : Type 0 where
  pub name : TextIs image (method_name image row) m.name
  pub flags : m.flags ≡ method_flags image row
  pub impl_flags : m.impl_flags ≡ method_impl_flags image row
  pub sig : MethodHas image names row m.sig
  pub generics : GenericsAre image names 0x06 row m.generics
  pub params : AllZip (IsParam image names) (params_of image row) m.params
  pub overrides : AllZip (λ k. MethodIs names (override_declaration image k)) (overrides_of image row) m.overrides
  pub entry : (m.entry ≡ true) ↔ (entry_token_of image ≡ token_of 0x06 row)
  pub body : BodyIs image names (method_rva image row) m.body
  pub attributes : AttributesAre image names 0x06 row m.attributes

-- ---- properties and events (II.22.13, II.22.34)

-- the kind of an accessor, and its place among the type's methods (II.22.28)
pub record IsAccessor (image : List ℕ) (type row : ℕ) (a : Accessor) : Type 0 where
  pub kind : a.kind ≡ semantics_kind image row
  pub method : first_method image type + a.method ≡ semantics_method image row

pub record IsProperty (image : List ℕ) (names : NameMap) (type row : ℕ) (p : Property) : Type 0 where
  pub name : TextIs image (property_name image row) p.name
  pub flags : p.flags ≡ without (property_flags image row) 0x1000
  pub sig : PropertyHas image names row p.sig
  pub constant : IsGiven (ConstantIs image) (constants_of image 0x17 row) p.constant
  pub accessors : AllZip (IsAccessor image type) (semantics_of image 0x17 row) p.accessors
  pub attributes : AttributesAre image names 0x17 row p.attributes

pub record IsEvent (image : List ℕ) (names : NameMap) (type row : ℕ) (e : Event) : Type 0 where
  pub name : TextIs image (event_name image row) e.name
  pub flags : e.flags ≡ event_flags image row
  pub of : OwnerIs image names (event_type image row) e.of
  pub accessors : AllZip (IsAccessor image type) (semantics_of image 0x14 row) e.accessors
  pub attributes : AttributesAre image names 0x14 row e.attributes

-- ---- types (II.22.37)

abbrev pub ExtendsIs : List ℕ → NameMap → ℕ → Option Owner → Type 0
ExtendsIs image names value None = value ≡ 0
ExtendsIs image names value (Some owner) = (value ≢ 0) × OwnerIs image names value owner

-- each is before the next in the order of terms, so that none stands twice
abbrev pub Rising : List Owner → Type 0
Rising [] = Unit {0}
Rising (a ∷ []) = Unit {0}
Rising (a ∷ b ∷ more) = (owner_order a b ≡ Less) × Rising (b ∷ more)

-- the set of the interfaces that rows of InterfaceImpl name (II.22.23)
pub record AreInterfaces (image : List ℕ) (names : NameMap) (type : ℕ) (owners : List Owner) : Type 0 where
  pub rising : Rising owners
  pub each : (owner : Owner) → Contains owners owner
      ↔ ((row : ℕ) × Contains (rows_with image 0x09 interface_class type) row × OwnerIs image names (interface_type image row) owner)

pub record IsLayout (image : List ℕ) (row : ℕ) (l : Layout) : Type 0 where
  pub pack : l.pack ≡ layout_pack image row
  pub size : l.size ≡ layout_size image row

-- all of a type but the types that it nests
pub record IsTypeButNested (image : List ℕ) (names : NameMap) (row : ℕ) (t : TypeDef-F TypeDef) : Type 0 where
  pub id : HasId image row t.id
  pub flags : t.flags ≡ type_flags image row
  pub layout : IsGiven (IsLayout image) (layouts_of image row) t.layout
  pub generics : GenericsAre image names 0x02 row t.generics
  pub extends : ExtendsIs image names (type_extends image row) t.extends
  pub implements : AreInterfaces image names row t.implements
  pub fields : AllZip (IsField image names) (fields_of image row) t.fields
  pub methods : AllZip (IsMethod image names) (methods_of image row) t.methods
  pub properties : AllZip (IsProperty image names row) (properties_of image row) t.properties
  pub events : AllZip (IsEvent image names row) (events_of image row) t.events
  pub attributes : AttributesAre image names 0x02 row t.attributes

mutual
  -- a type, and those that it nests
  pub data IsType (image : List ℕ) (names : NameMap) : ℕ → TypeDef → Type 0 where
    made : {row : ℕ} {t : TypeDef} → IsTypeButNested image names row (out-TypeDef t)
        → AreTypes image names (types_in image row) (out-TypeDef t).nested → IsType image names row t

  -- types, one for each row
  pub data AreTypes (image : List ℕ) (names : NameMap) : List ℕ → List TypeDef → Type 0 where
    none : AreTypes image names [] []
    more : {row : ℕ} {rows : List ℕ} {t : TypeDef} {ts : List TypeDef} → IsType image names row t → AreTypes image names rows ts
        → AreTypes image names (row ∷ rows) (t ∷ ts)

-- ---- the whole

-- each part of the assembly is what the image gives
pub record IsAssembly (image : List ℕ) (names : NameMap) (a : Assembly) : Type 0 where
  pub manifest : IsManifest image names a.manifest
  pub externs : AllZip (IsExtern image) (rows_of image 0x23) a.externs
  pub fields : AllZip (IsField image names) (fields_of image 1) a.fields
  pub methods : AllZip (IsMethod image names) (methods_of image 1) a.methods
  pub types : AreTypes image names (types_in image 0) a.types
