-- What is kept of the methods and fields of an image (II.22.15, II.22.25, II.22.26, II.22.29), by what is kept of the types that its
-- tokens name.
use Rattle.std.specs.Prelude.{◌≡◌, ℕ, ◌<◌, ◌^◌, ◌⊎◌, List, Option, Some, Contains}
use Rattle.heaps.specs.Content.{HasBlob}
use Rattle.metadata_tables.specs.Stream.{cell}
use Rattle.metadata_tables.specs.declared.coded.Coded.TheVariants.{MemberRefParent, MethodDefOrRef}
use Rattle.type_terms.specs.declared.name.TypeId.{TypeId}
use Rattle.type_terms.specs.declared.reference.FieldRef.{FieldRef}
use Rattle.type_terms.specs.declared.reference.MethodRef.{MethodRef}
use Rattle.type_terms.specs.declared.reference.MethodSig.{MethodSig}
use Rattle.type_terms.specs.declared.term.Owner.{Owner}
use Rattle.type_terms.specs.declared.term.SigType.{SigType}
use Rattle.image_model.specs.Columns.{member_parent, instance_method}
use Rattle.image_model.specs.Naming.{HasPath, here, IsToken, RowOwner, NamesMethod, NamesField}
use Rattle.image_model.specs.Rows.{HasRow, Names, token_of, methods_of, fields_of}
use Rattle.image_model.specs.Streams.{blobs_of, tables_of}
use Rattle.image_model.specs.Terms.{FieldHas, MethodHas, MemberHasMethod, MemberHasField, InstanceHas}
use Rattle.image_model.specs.Used.{IsReference, IsUsed}
use Rattle.image_source.specs.Names.{names_of, owner_of_row}
use Rattle.kept_names.specs.declared.names.KeptNames.{KeptNames}
use Rattle.row_demands.specs.Structured.{MeetStructure}
use Rattle.kept_members.specs.Maps.{Has, AreTrue}

-- the types that tokens name, as they are kept
abbrev pub owners_of : KeptNames → ℕ → Option Owner
owners_of known = (names_of known).owners

-- the blob that a cell names spells something
abbrev pub BlobIs : {X : Type 0} → List ℕ → (List ℕ → X → Type 0) → (table row column : ℕ) → X → Type 0
BlobIs image Is table row column x = (bytes : List ℕ) × HasBlob (blobs_of image) (cell (tables_of image) table row column) bytes × Is bytes x

-- a type is kept of a row
abbrev pub IsKeptOwner : List ℕ → KeptNames → (table row : ℕ) → Owner → Type 0
IsKeptOwner image known table row owner = (owner_of_row known table row ≡ Some owner) × RowOwner image (owners_of known) table row owner

-- the parent of a MemberRef is a method, or a type that is kept (II.22.25)
abbrev pub IsKnownParent : List ℕ → KeptNames → (table parent : ℕ) → Type 0
IsKnownParent image known table parent = ((table ≡ 0x06) × HasRow image 0x06 parent) ⊎ ((owner : Owner) × IsKeptOwner image known table parent owner)

-- the type to which a field belongs
pub data OwnsField (image : List ℕ) : ℕ → Owner → Type 0 where
  owns : {field type : ℕ} {path : List TypeId} → HasRow image 0x02 type → Contains (fields_of image type) field → HasPath image type path → OwnsField image field (here path)

-- a reference in use with a method's signature, and one with a field's
abbrev pub IsMemberMethod : List ℕ → KeptNames → ℕ → Type 0
IsMemberMethod image known row = IsUsed image 0x0A row × (sig : MethodSig) × MemberHasMethod image (names_of known) row sig

abbrev pub IsMemberField : List ℕ → KeptNames → ℕ → Type 0
IsMemberField image known row = IsUsed image 0x0A row × (of : SigType) × MemberHasField image (names_of known) row of

-- a row is a method: one that is declared, or a reference in use with a method's signature (II.22.29)
abbrev pub IsMethodRow : List ℕ → KeptNames → (table row : ℕ) → Type 0
IsMethodRow image known table row =
    ((table ≡ 0x06) × HasRow image 0x06 row) ⊎ ((table ≡ 0x0A) × IsMemberMethod image known row)

-- What has to hold before members are kept: the types that they name are kept, and their signatures are spelled.
pub record CanKeep (image : List ℕ) (known : KeptNames) : Type 0 where
  pub structure : MeetStructure image
  pub types : (type : ℕ) → HasRow image 0x02 type → (path : List TypeId) × HasPath image type path × (owner_of_row known 0x02 type ≡ Some (here path))
  pub method_in : (row : ℕ) → HasRow image 0x06 row → (type : ℕ) × HasRow image 0x02 type × Contains (methods_of image type) row
  pub method_there : (type row : ℕ) → HasRow image 0x02 type → Contains (methods_of image type) row → HasRow image 0x06 row
  pub field_in : (row : ℕ) → HasRow image 0x04 row → (type : ℕ) × HasRow image 0x02 type × Contains (fields_of image type) row
  pub field_there : (type row : ℕ) → HasRow image 0x02 type → Contains (fields_of image type) row → HasRow image 0x04 row
  pub few_methods : (row : ℕ) → HasRow image 0x06 row → row < 2 ^ 24
  pub few_fields : (row : ℕ) → HasRow image 0x04 row → row < 2 ^ 24
  pub few_members : (row : ℕ) → HasRow image 0x0A row → row < 2 ^ 24
  pub methods : (row : ℕ) → HasRow image 0x06 row → (sig : MethodSig) × MethodHas image (names_of known) row sig
  pub fields : (row : ℕ) → HasRow image 0x04 row → (of : SigType) × FieldHas image (names_of known) row of
  pub members : (row : ℕ) → IsUsed image 0x0A row → ((sig : MethodSig) × MemberHasMethod image (names_of known) row sig) ⊎ ((of : SigType) × MemberHasField image (names_of known) row of)
  pub parents : (row : ℕ) → IsUsed image 0x0A row → (table parent : ℕ) × Names MemberRefParent (member_parent image row) table parent × IsKnownParent image known table parent
  pub instances : (row : ℕ) → IsUsed image 0x2B row → (args : List SigType) × InstanceHas image (names_of known) row args
  pub instance_of : (row : ℕ) → IsUsed image 0x2B row → (table method : ℕ) × Names MethodDefOrRef (instance_method image row) table method × IsMethodRow image known table method

-- a token names a row that is no reference, or one in use
pub record IsInUse (image : List ℕ) (token : ℕ) : Type 0 where
  pub table : ℕ
  pub row : ℕ
  pub is : IsToken token table row
  pub used : IsReference table → IsUsed image table row

-- a token names a method, and a field, by what is kept
abbrev pub IsMethodOf : List ℕ → KeptNames → ℕ → MethodRef → Type 0
IsMethodOf image known token method = NamesMethod image (owners_of known) token method × IsInUse image token

abbrev pub IsFieldOf : List ℕ → KeptNames → ℕ → FieldRef → Type 0
IsFieldOf image known token field = NamesField image (owners_of known) token field × IsInUse image token

-- ---- what is kept of each table

abbrev pub HasMethods : List ℕ → (ℕ → Option MethodRef) → Type 0
HasMethods image methods = (row : ℕ) → HasRow image 0x06 row → Has methods (token_of 0x06 row)

abbrev pub HasFields : List ℕ → (ℕ → Option FieldRef) → Type 0
HasFields image fields = (row : ℕ) → HasRow image 0x04 row → Has fields (token_of 0x04 row)

abbrev pub HasMemberMethods : List ℕ → KeptNames → (ℕ → Option MethodRef) → Type 0
HasMemberMethods image known methods = (row : ℕ) → IsMemberMethod image known row → Has methods (token_of 0x0A row)

abbrev pub HasMemberFields : List ℕ → KeptNames → (ℕ → Option FieldRef) → Type 0
HasMemberFields image known fields = (row : ℕ) → IsMemberField image known row → Has fields (token_of 0x0A row)

-- an instance in use that has a token
abbrev pub IsInstance : List ℕ → ℕ → Type 0
IsInstance image row = IsUsed image 0x2B row × (row < 2 ^ 24)

abbrev pub HasInstances : List ℕ → (ℕ → Option MethodRef) → Type 0
HasInstances image methods = (row : ℕ) → IsInstance image row → Has methods (token_of 0x2B row)

-- The methods and fields that rows other than references, references in use and bodies can name are kept, as what they are.
pub record AreMembers (image : List ℕ) (known : KeptNames) (method_at : ℕ → Option MethodRef) (field_at : ℕ → Option FieldRef) : Type 0 where
  pub true_methods : AreTrue (IsMethodOf image known) method_at
  pub true_fields : AreTrue (IsFieldOf image known) field_at
  pub methods : HasMethods image method_at
  pub fields : HasFields image field_at
  pub member_methods : HasMemberMethods image known method_at
  pub member_fields : HasMemberFields image known field_at
  pub instances : HasInstances image method_at
