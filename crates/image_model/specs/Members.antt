-- What is asked of types and members: that none stands twice (I15), their values (I16), attributes (I21), bases (I22) and
-- accessors (I23). Each is a demand on one row; that of a constant, an accessor, a generic parameter, a layout, an offset or
-- data is asked at the row that has it.
use Rattle.std.specs.Prelude.{Bool, ◌≡◌, ◌≢◌, ℕ, ◌<◌, ◌≤◌, ◌⊎◌, List, [], ◌∷◌, Some, All, Contains, length, codes, slice_get}
use Rattle.std.specs.Int.{bit_at}
use Rattle.heaps.specs.Content.{HasText, HasBlob}
use Rattle.pe_layout.specs.FileMap.{readable}
use Rattle.metadata_tables.specs.declared.coded.Coded.TheVariants.{HasConstant, HasCustomAttribute, HasSemantics, MethodDefOrRef, CustomAttributeType, TypeOrMethodDef}
use Rattle.type_terms.specs.declared.name.Scope.TheVariants.{Here}
use Rattle.type_terms.specs.declared.name.TypeId.{TypeId}
use Rattle.type_terms.specs.declared.reference.MethodRef.{MethodRef}
use Rattle.type_terms.specs.declared.reference.MethodSig.{MethodSig}
use Rattle.type_terms.specs.declared.term.Primitive.{Primitive}
use Rattle.type_terms.specs.declared.term.Owner.{Owner}
use Rattle.type_terms.specs.declared.term.Owner.TheOpen as layer
use Rattle.type_terms.specs.declared.term.SigType.{SigType, out-SigType}
use Rattle.assembly_tree.specs.DataSize.{primitive_size}
use Rattle.assembly_tree.specs.declared.members.Constant.{Constant}
use Rattle.image_model.specs.Streams.{strings_of, blobs_of}
use Rattle.image_model.specs.Columns.{type_flags, type_extends, field_name, method_name, param_sequence, constant_type, constant_parent, constant_value, attribute_parent, attribute_type, layout_pack, layout_size, layout_parent, offset_field, event_name, event_type, property_name, semantics_kind, semantics_method, semantics_association, override_class, override_body, data_rva, data_field, generic_number, generic_owner, instance_method}
use Rattle.image_model.specs.Rows.{HasRow, Names, rows_with, index_of, token_of, fields_of, methods_of, params_of, events_of, properties_of, enclosing}
use Rattle.body_codec.specs.Names.{NameMap}
use Rattle.image_model.specs.Naming.{HasId, HasPath}
use Rattle.image_model.specs.Terms.{FieldHas, MethodHas, PropertyHas, InstanceHas, max_count}
use Rattle.image_model.specs.Used.{IsUsed}
use Rattle.image_model.specs.Constants.{constant_of}

-- ---- I15

-- two types have one path
abbrev pub HaveOnePath : List ℕ → ℕ → ℕ → Type 0
HaveOnePath image a b = (path : List TypeId) × HasPath image a path × HasPath image b path

-- two rows have one name
abbrev pub HaveOneName : List ℕ → (ℕ → ℕ) → ℕ → ℕ → Type 0
HaveOneName image name a b = (text : List ℕ) × HasText (strings_of image) (name a) text × HasText (strings_of image) (name b) text

-- two rows have one signature
abbrev pub HaveOne : {X : Type 0} → (ℕ → X → Type 0) → ℕ → ℕ → Type 0
HaveOne {X = X} Has a b = (x : X) × Has a x × Has b x

-- two rows are members of one type
abbrev pub AreOfOneType : List ℕ → (ℕ → List ℕ) → ℕ → ℕ → Type 0
AreOfOneType image members a b = (type : ℕ) × HasRow image 0x02 type × Contains (members type) a × Contains (members type) b

-- no earlier row of the table is like this one
abbrev pub IsNew : (ℕ → ℕ → Type 0) → ℕ → Type 0
IsNew Alike row = (earlier : ℕ) → 0 < earlier → earlier < row → Alike earlier row → ⊥

-- types by their paths; fields, methods and properties of a type by name and signature; its events by name
pub record AreDistinct (image : List ℕ) (names : NameMap) (table row : ℕ) : Type 0 where
  pub type : table ≡ 0x02 → HasRow image 0x02 row → IsNew (HaveOnePath image) row
  pub field : table ≡ 0x04 → HasRow image 0x04 row
      → IsNew (λ a b. AreOfOneType image (fields_of image) a b × HaveOneName image (field_name image) a b × HaveOne (FieldHas image names) a b) row
  pub method : table ≡ 0x06 → HasRow image 0x06 row
      → IsNew (λ a b. AreOfOneType image (methods_of image) a b × HaveOneName image (method_name image) a b × HaveOne (MethodHas image names) a b) row
  pub event : table ≡ 0x14 → HasRow image 0x14 row
      → IsNew (λ a b. AreOfOneType image (events_of image) a b × HaveOneName image (event_name image) a b) row
  pub property : table ≡ 0x17 → HasRow image 0x17 row
      → IsNew (λ a b. AreOfOneType image (properties_of image) a b × HaveOneName image (property_name image) a b × HaveOne (PropertyHas image names) a b) row

-- ---- I16

-- the rows of Constant, MethodSemantics, GenericParam, ClassLayout, FieldLayout and FieldRVA that belong to a row
abbrev pub constants_of : List ℕ → ℕ → ℕ → List ℕ
constants_of image table row = rows_with image 0x0B constant_parent (index_of HasConstant table row)

abbrev pub semantics_of : List ℕ → ℕ → ℕ → List ℕ
semantics_of image table row = rows_with image 0x18 semantics_association (index_of HasSemantics table row)

abbrev pub generics_of : List ℕ → ℕ → ℕ → List ℕ
generics_of image table row = rows_with image 0x2A generic_owner (index_of TypeOrMethodDef table row)

abbrev pub layouts_of : List ℕ → ℕ → List ℕ
layouts_of image type = rows_with image 0x0F layout_parent type

abbrev pub offsets_of : List ℕ → ℕ → List ℕ
offsets_of image field = rows_with image 0x10 offset_field field

abbrev pub data_of : List ℕ → ℕ → List ℕ
data_of image field = rows_with image 0x1D data_field field

-- a row of Constant is a constant
abbrev pub ConstantIs : List ℕ → ℕ → Constant → Type 0
ConstantIs image row c =
    (value : List ℕ) × HasBlob (blobs_of image) (constant_value image row) value × (constant_of (constant_type image row) value ≡ Some c)

-- at most one constant, which is one
pub record HasConstants (image : List ℕ) (table row : ℕ) : Type 0 where
  pub one : length (constants_of image table row) ≤ 1
  pub each : All (λ k. (c : Constant) × ConstantIs image k c) (constants_of image table row)

-- the kinds of accessors that a property and an event may have (II.23.1.12): setter, getter, other; other, addon, removeon, fire
abbrev pub property_kinds : List ℕ
property_kinds = 1 ∷ 2 ∷ 4 ∷ []

abbrev pub event_kinds : List ℕ
event_kinds = 4 ∷ 8 ∷ 0x10 ∷ 0x20 ∷ []

abbrev pub HasKinds : List ℕ → List ℕ → ℕ → ℕ → Type 0
HasKinds image kinds table row = All (λ k. Contains kinds (semantics_kind image k)) (semantics_of image table row)

-- generic parameters are numbered 0, 1 and on, all below 65,535 (II.22.20)
pub record HasGenerics (image : List ℕ) (table row : ℕ) : Type 0 where
  pub numbered : (k parameter : ℕ) → slice_get (generics_of image table row) k ≡ Some parameter → generic_number image parameter ≡ k
  pub few : length (generics_of image table row) ≤ max_count

-- the packing sizes of II.22.8
abbrev pub packings : List ℕ
packings = 0 ∷ 1 ∷ 2 ∷ 4 ∷ 8 ∷ 16 ∷ 32 ∷ 64 ∷ 128 ∷ []

-- at most one layout, with a packing size; `<Module>` has none
pub record HasLayout (image : List ℕ) (type : ℕ) : Type 0 where
  pub one : length (layouts_of image type) ≤ 1
  pub not_module : type ≡ 1 → layouts_of image type ≡ []
  pub packing : All (λ k. Contains packings (layout_pack image k)) (layouts_of image type)

-- the signature's generic number is the number of generic parameters, and the params have numbers up to that of the parameters
pub record FitsSignature (image : List ℕ) (method : ℕ) (sig : MethodSig) : Type 0 where
  pub generic : sig.generic ≡ length (generics_of image 0x06 method)
  pub params : All (λ k. param_sequence image k ≤ length sig.params) (params_of image method)

-- How many bytes a value of a type has in data (II.16.3): a primitive type has those of its width, and a value type of this
-- image the class size of its layout, where that is above 0.
pub data HasDataSize (image : List ℕ) : SigType → ℕ → Type 0 where
  primitive : {t : SigType} {p : Primitive} {size : ℕ} → out-SigType t ≡ layer.Prim p → primitive_size p ≡ Some size → HasDataSize image t size
  value : {t : SigType} {path : List TypeId} {type layout : ℕ} {size : ℕ} → out-SigType t ≡ layer.Value (record { scope = Here; path = path })
      → HasRow image 0x02 type → HasPath image type path → Contains (layouts_of image type) layout
      → layout_size image layout ≡ size → 0 < size → HasDataSize image t size
  modified : {t of : SigType} {required : Bool} {by : Owner} {size : ℕ} → out-SigType t ≡ layer.Mod required by of
      → HasDataSize image of size → HasDataSize image t size

-- data has a size, and that many bytes can be read where it stands (II.22.18)
abbrev pub HasData : List ℕ → NameMap → ℕ → ℕ → Type 0
HasData image names field row =
    (of : SigType) × (size : ℕ) × FieldHas image names field of × HasDataSize image of size × (size ≤ length (readable image (data_rva image row)))

-- at most one offset and one place of data, which is there
pub record HasFieldValues (image : List ℕ) (names : NameMap) (field : ℕ) : Type 0 where
  pub constants : HasConstants image 0x04 field
  pub offset : length (offsets_of image field) ≤ 1
  pub one_data : length (data_of image field) ≤ 1
  pub data_there : All (HasData image names field) (data_of image field)

-- the body that overrides is a method of the class (II.22.27)
abbrev pub OverridesInClass : List ℕ → ℕ → Type 0
OverridesInClass image row =
    (method : ℕ) × Names MethodDefOrRef (override_body image row) 0x06 method × Contains (methods_of image (override_class image row)) method

-- as many arguments as the method's generic number (II.22.29)
abbrev pub FitsInstance : List ℕ → NameMap → ℕ → Type 0
FitsInstance image names row =
    (table method : ℕ) × (m : MethodRef) × (args : List SigType) × Names MethodDefOrRef (instance_method image row) table method
    × (names.methods (token_of table method) ≡ Some m) × InstanceHas image names row args × (length args ≡ m.sig.generic)

pub record HasValues (image : List ℕ) (names : NameMap) (table row : ℕ) : Type 0 where
  pub type_generics : table ≡ 0x02 → HasRow image 0x02 row → HasGenerics image 0x02 row
  pub layout : table ≡ 0x02 → HasRow image 0x02 row → HasLayout image row
  pub field : table ≡ 0x04 → HasRow image 0x04 row → HasFieldValues image names row
  pub method_generics : table ≡ 0x06 → HasRow image 0x06 row → HasGenerics image 0x06 row
  pub method : table ≡ 0x06 → HasRow image 0x06 row → (sig : MethodSig) × MethodHas image names row sig × FitsSignature image row sig
  pub param : table ≡ 0x08 → HasRow image 0x08 row → HasConstants image 0x08 row
  pub event_of : table ≡ 0x14 → HasRow image 0x14 row → event_type image row ≢ 0
  pub event_kinds_are : table ≡ 0x14 → HasRow image 0x14 row → HasKinds image event_kinds 0x14 row
  pub property : table ≡ 0x17 → HasRow image 0x17 row → HasConstants image 0x17 row
  pub property_kinds_are : table ≡ 0x17 → HasRow image 0x17 row → HasKinds image property_kinds 0x17 row
  pub override : table ≡ 0x19 → HasRow image 0x19 row → OverridesInClass image row
  pub instance : table ≡ 0x2B → IsUsed image 0x2B row → FitsInstance image names row

-- ---- I21

-- assembly, module, type, field, method, param, property, event and generic parameter may have attributes
abbrev pub attributed_tables : List ℕ
attributed_tables = 0x20 ∷ 0x00 ∷ 0x02 ∷ 0x04 ∷ 0x06 ∷ 0x08 ∷ 0x17 ∷ 0x14 ∷ 0x2A ∷ []

abbrev pub IsAttributed : List ℕ → ℕ → Type 0
IsAttributed image row =
    (table parent : ℕ) × Names HasCustomAttribute (attribute_parent image row) table parent × Contains attributed_tables table

-- an attribute's type is a method: a MethodDef, or a MemberRef with a method's signature (II.22.10)
abbrev pub HasConstructor : List ℕ → NameMap → ℕ → Type 0
HasConstructor image names row =
    (table constructor : ℕ) × (m : MethodRef) × Names CustomAttributeType (attribute_type image row) table constructor
    × (names.methods (token_of table constructor) ≡ Some m)

pub record HasAttribute (image : List ℕ) (names : NameMap) (table row : ℕ) : Type 0 where
  pub parent : table ≡ 0x0C → HasRow image 0x0C row → IsAttributed image row
  pub constructor : table ≡ 0x0C → HasRow image 0x0C row → HasConstructor image names row

-- ---- I22

-- II.23.1.15: the flag of an interface
abbrev pub IsInterface : List ℕ → ℕ → Type 0
IsInterface image type = bit_at (type_flags image type) 5 ≡ 1

abbrev pub object_id : TypeId
object_id = record { space = codes "System"; name = codes "Object" }

-- `<Module>`, and the top-level type System.Object
abbrev pub MayLackBase : List ℕ → ℕ → Type 0
MayLackBase image type = (type ≡ 1) ⊎ ((enclosing image type ≡ 0) × HasId image type object_id)

-- an interface has no base, and every other type has one but for these two (II.22.37)
pub record HasBase (image : List ℕ) (table row : ℕ) : Type 0 where
  pub interface : table ≡ 0x02 → HasRow image 0x02 row → IsInterface image row → type_extends image row ≡ 0
  pub other : table ≡ 0x02 → HasRow image 0x02 row → (IsInterface image row → ⊥) → (type_extends image row ≢ 0) ⊎ MayLackBase image row

-- ---- I23

-- each accessor of a property or event is a method of the type that has that property or event (II.22.28)
abbrev pub HasAccessors : List ℕ → (ℕ → List ℕ) → ℕ → ℕ → Type 0
HasAccessors image members table row =
    All (λ k. (type : ℕ) × HasRow image 0x02 type × Contains (members type) row × Contains (methods_of image type) (semantics_method image k)) (semantics_of image table row)

pub record HasOwnAccessors (image : List ℕ) (table row : ℕ) : Type 0 where
  pub event : table ≡ 0x14 → HasRow image 0x14 row → HasAccessors image (events_of image) 0x14 row
  pub property : table ≡ 0x17 → HasRow image 0x17 row → HasAccessors image (properties_of image) 0x17 row
