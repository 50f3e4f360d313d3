-- The signatures of rows, and what is asked of them (I14): each one in use is spelled whole, by the kind that its column wants,
-- with its numbers in bounds (II.23.2).
use Rattle.std.specs.Prelude.{◌≡◌, ℕ, ◌≤◌, ◌⊎◌, max, List, None, All, length}
use Rattle.heaps.specs.Content.{HasBlob}
use Rattle.metadata_tables.specs.declared.coded.Coded.TheVariants.{MethodDefOrRef}
use Rattle.sig_codec.specs.Signature.{IsType, IsMethod, IsField, IsProperty, AreLocals, IsInstantiation}
use Rattle.type_terms.specs.Depth.{largest}
use Rattle.type_terms.specs.declared.reference.MethodSig.{MethodSig}
use Rattle.type_terms.specs.declared.term.Owner.TheOpen.{Owner-F, SigType-F, Name, Spec, Prim, Class, Value, Inst, Var, MVar, SzArray, Array, ByRef, Pointer, Mod, Pinned}
use Rattle.type_terms.specs.declared.term.SigType.{SigType, fold-SigType}
use Rattle.image_model.specs.Streams.{blobs_of}
use Rattle.image_model.specs.Columns.{field_signature, method_signature, member_signature, property_signature, locals_signature, type_spec_signature, instance_method, instance_arguments, override_body, override_declaration}
use Rattle.image_model.specs.Rows.{HasRow, Names}
use Rattle.body_codec.specs.Names.{NameMap}
use Rattle.image_model.specs.Used.{IsUsed}

-- ---- terms of rows, by what the tokens of the image name

abbrev pub FieldHas : List ℕ → NameMap → ℕ → SigType → Type 0
FieldHas image names field of =
    (bytes : List ℕ) × HasBlob (blobs_of image) (field_signature image field) bytes × IsField names.owners bytes of

abbrev pub MethodHas : List ℕ → NameMap → ℕ → MethodSig → Type 0
MethodHas image names method sig =
    (bytes : List ℕ) × HasBlob (blobs_of image) (method_signature image method) bytes × IsMethod names.owners bytes sig

abbrev pub PropertyHas : List ℕ → NameMap → ℕ → MethodSig → Type 0
PropertyHas image names property sig =
    (bytes : List ℕ) × HasBlob (blobs_of image) (property_signature image property) bytes × IsProperty names.owners bytes sig

abbrev pub MemberHasMethod : List ℕ → NameMap → ℕ → MethodSig → Type 0
MemberHasMethod image names member sig =
    (bytes : List ℕ) × HasBlob (blobs_of image) (member_signature image member) bytes × IsMethod names.owners bytes sig

abbrev pub MemberHasField : List ℕ → NameMap → ℕ → SigType → Type 0
MemberHasField image names member of =
    (bytes : List ℕ) × HasBlob (blobs_of image) (member_signature image member) bytes × IsField names.owners bytes of

abbrev pub LocalsHave : List ℕ → NameMap → ℕ → List SigType → Type 0
LocalsHave image names row types =
    (bytes : List ℕ) × HasBlob (blobs_of image) (locals_signature image row) bytes × AreLocals names.owners bytes types

abbrev pub TypeSpecHas : List ℕ → NameMap → ℕ → SigType → Type 0
TypeSpecHas image names row term =
    (bytes : List ℕ) × HasBlob (blobs_of image) (type_spec_signature image row) bytes × IsType names.owners bytes term

abbrev pub InstanceHas : List ℕ → NameMap → ℕ → List SigType → Type 0
InstanceHas image names row args =
    (bytes : List ℕ) × HasBlob (blobs_of image) (instance_arguments image row) bytes × IsInstantiation names.owners bytes args

-- ---- bounds

-- the largest rank of an array in a type
abbrev pub owner_rank : Owner-F ℕ ℕ → ℕ
owner_rank (Name name) = 0
owner_rank (Spec rank) = rank

abbrev pub type_rank : SigType-F ℕ ℕ → ℕ
type_rank (Inst value name args) = largest args
type_rank (SzArray of) = of
type_rank (Array of rank sizes lower) = max rank of
type_rank (ByRef of) = of
type_rank (Pointer of) = of
type_rank (Mod required by of) = max by of
type_rank (Pinned of) = of
type_rank (Prim p) = 0
type_rank (Class name) = 0
type_rank (Value name) = 0
type_rank (Var n) = 0
type_rank (MVar n) = 0

-- arrays of at most 32 dimensions
abbrev pub HasRanks : SigType → Type 0
HasRanks t = fold-SigType ℕ ℕ owner_rank type_rank t ≤ 32

-- how many generic parameters, parameters and locals one owner may have
abbrev pub max_count : ℕ
max_count = 65535

pub record HasBounds (sig : MethodSig) : Type 0 where
  pub generic : sig.generic ≤ max_count
  pub params : length sig.params ≤ max_count
  pub ret : HasRanks sig.ret
  pub ranks : All HasRanks sig.params

-- ---- I14

-- a MethodDefOrRef index names a method with a method's signature: a MethodDef, or a MemberRef that has one
abbrev pub NamesSignature : List ℕ → NameMap → ℕ → Type 0
NamesSignature image names value =
    (table row : ℕ) × Names MethodDefOrRef value table row × (table ≡ 0x0A → (sig : MethodSig) × MemberHasMethod image names row sig)

-- the signature of a MemberRef is a method's, which alone may have a sentinel, or a field's
abbrev pub HasMember : List ℕ → NameMap → ℕ → Type 0
HasMember image names row =
    ((sig : MethodSig) × MemberHasMethod image names row sig × HasBounds sig) ⊎ ((of : SigType) × MemberHasField image names row of × HasRanks of)

pub record HasSignatures (image : List ℕ) (names : NameMap) (table row : ℕ) : Type 0 where
  pub field : table ≡ 0x04 → HasRow image 0x04 row → (of : SigType) × FieldHas image names row of × HasRanks of
  pub method : table ≡ 0x06 → HasRow image 0x06 row → (sig : MethodSig) × MethodHas image names row sig × HasBounds sig × (sig.sentinel ≡ None)
  pub property : table ≡ 0x17 → HasRow image 0x17 row → (sig : MethodSig) × PropertyHas image names row sig × HasBounds sig
  pub member : table ≡ 0x0A → IsUsed image 0x0A row → HasMember image names row
  pub locals : table ≡ 0x11 → IsUsed image 0x11 row
      → (types : List SigType) × LocalsHave image names row types × (length types ≤ max_count) × All HasRanks types
  pub override : table ≡ 0x19 → HasRow image 0x19 row → NamesSignature image names (override_body image row) × NamesSignature image names (override_declaration image row)
  pub type : table ≡ 0x1B → IsUsed image 0x1B row → (term : SigType) × TypeSpecHas image names row term × HasRanks term
  pub instance : table ≡ 0x2B → IsUsed image 0x2B row
      → (args : List SigType) × InstanceHas image names row args × All HasRanks args
  -- of each row, in use or not
  pub instance_of : table ≡ 0x2B → HasRow image 0x2B row → NamesSignature image names (instance_method image row)
