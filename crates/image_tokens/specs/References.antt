-- What has been given tokens while an image is being made: heaps, rows, and the tokens of what a tree names (ECMA-335 II.22,
-- II.24, III.1.9).
use Rattle.std.specs.Prelude.{◌≡◌, ◌≢◌, ℕ, ◌+◌, ◌*◌, ◌/◌, ◌%◌, ◌^◌, ◌<◌, ◌≤◌, ◌⊎◌, List, [], Option, Some, None, length}
use Rattle.std.specs.List.{AllByRecursion}
use mathlib.Core.Logic.{inl, inr}
use Rattle.metadata_tables.specs.declared.coded.Coded.TheVariants.{MemberRefParent, MethodDefOrRef}
use Rattle.sig_codec.specs.Spelling.{Notation, writing, SpellsType}
use Rattle.sig_codec.specs.Signature.{SpellsMethod, SpellsField, SpellsLocals, SpellsInstantiation}
use Rattle.type_terms.specs.declared.name.TypeName.{TypeName}
use Rattle.type_terms.specs.declared.reference.FieldRef.{FieldRef}
use Rattle.type_terms.specs.declared.reference.MethodRef.{MethodRef}
use Rattle.type_terms.specs.declared.reference.MethodSig.{MethodSig}
use Rattle.type_terms.specs.declared.term.Owner.{Owner}
use Rattle.type_terms.specs.declared.term.SigType.{SigType}
use Rattle.image_tokens.specs.Blobs.{HoldsBlob, KeepsBlobs}
use Rattle.image_tokens.specs.Bounds.{IsTypeInBounds, AreTypesInBounds, IsMethodInBounds}
use Rattle.image_tokens.specs.Indexes.{IsToken, index_of_token}
use Rattle.image_tokens.specs.KnownTokens.{owner_token}
use Rattle.image_tokens.specs.Loaded.{AreUnits}
use Rattle.image_tokens.specs.NameTokens.{AreNames, LiesOn, Learns}
use Rattle.image_tokens.specs.Rows.{IsRowAt, EachRow}
use Rattle.image_tokens.specs.Texts.{HoldsText, KeepsTexts}
use Rattle.image_tokens.specs.TypePaths.{GoesOn}
use Rattle.image_tokens.specs.Units.{HoldsUnits, KeepsUnits, bytes_of_units}
use Rattle.image_tokens.specs.Writable.{CanBeNamed}
use Rattle.image_tokens.specs.declared.references.References.{References}
use Rattle.image_tokens.specs.declared.row_set.Cells.{Cells}

-- the tokens of types
abbrev pub tokens_of : References → Owner → Option ℕ
tokens_of r = owner_token r.known.names r.known.specs

-- the bytes of the heaps and of the rows, each row in its widest form: TypeRef and MemberRef have 12 bytes, MethodSpec 8,
-- TypeSpec and StandAloneSig 4 (II.24.2.6)
unfoldable pub size : References → ℕ
size r =
    length r.heaps.strings.bytes + length r.heaps.blobs.bytes + length r.heaps.user.bytes + 12 * length r.referred.names
    + 4 * length r.referred.specs + 12 * length r.referred.members + 8 * length r.referred.instances + 4 * length r.referred.locals

-- ---- what a token stands for

-- A blob is in use and spells a signature, with the tokens that types had when it was written; they have them still.
pub record HasSignature {X : Type 0} (Spells : Notation → X → List ℕ → Type 0) (r : References) (x : X) (blob : ℕ) : Type 0 where
  pub bytes : List ℕ
  pub holds : HoldsBlob r.heaps.blobs bytes blob
  pub earlier : Owner → Option ℕ
  pub within : (owner : Owner) (token : ℕ) → earlier owner ≡ Some token → tokens_of r owner ≡ Some token
  pub spells : Spells (writing earlier) x bytes

-- a row with one blob alone
abbrev pub one_cell : ℕ → Cells
one_cell blob = record { first = blob; second = 0; third = 0 }

-- a TypeSpec whose signature spells the type (II.22.39)
pub record IsSpecToken (r : References) (t : SigType) (token : ℕ) : Type 0 where
  pub row : ℕ
  pub blob : ℕ
  pub at : IsRowAt r.referred.specs (one_cell blob) row
  pub signature : HasSignature SpellsType r t blob
  pub is : IsToken token 0x1B row

-- a row with a parent, a name and a signature
pub record IsMemberRow {X : Type 0} (Spells : Notation → X → List ℕ → Type 0) (r : References) (rows : List Cells) (parent : ℕ) (name : List ℕ) (x : X) (row : ℕ) : Type 0 where
  pub cells : Cells
  pub at : IsRowAt rows cells row
  pub parent_is : cells.first ≡ parent
  pub name_is : HoldsText r.heaps.strings name cells.second
  pub signature : HasSignature Spells r x cells.third

-- a member: the row that a declared type has for it, or that of MemberRef (II.22.25)
pub data HasMemberToken {X : Type 0} (Spells : Notation → X → List ℕ → Type 0) (r : References) (table : ℕ) (declared : List Cells) (owner : Owner) (name : List ℕ) (x : X) : ℕ → Type 0 where
  of_declared : {type row token : ℕ} → tokens_of r owner ≡ Some type → type / 2 ^ 24 ≡ 0x02 → IsMemberRow Spells r declared (type % 2 ^ 24) name x row
      → IsToken token table row → HasMemberToken Spells r table declared owner name x token
  of_referred : {type row token : ℕ} → tokens_of r owner ≡ Some type → IsMemberRow Spells r r.referred.members (index_of_token MemberRefParent type) name x row
      → IsToken token 0x0A row → HasMemberToken Spells r table declared owner name x token

abbrev pub HasGenericToken : References → MethodRef → ℕ → Type 0
HasGenericToken r m token = HasMemberToken SpellsMethod r 0x06 r.declared.methods m.owner m.name m.sig token

-- a method, or a generic one with its arguments (II.22.29)
pub data IsMethodToken (r : References) (m : MethodRef) : ℕ → Type 0 where
  plain : {token : ℕ} → m.args ≡ None → HasGenericToken r m token → IsMethodToken r m token
  instance : {args : List SigType} {generic blob row token : ℕ} → m.args ≡ Some args → HasGenericToken r m generic
      → IsRowAt r.referred.instances (record { first = index_of_token MethodDefOrRef generic; second = blob; third = 0 }) row
      → HasSignature SpellsInstantiation r args blob → IsToken token 0x2B row → IsMethodToken r m token

abbrev pub IsFieldToken : References → FieldRef → ℕ → Type 0
IsFieldToken r f token = HasMemberToken SpellsField r 0x04 r.declared.fields f.owner f.name f.of token

-- a StandAloneSig whose signature spells the locals (II.22.36)
pub record IsLocalsToken (r : References) (ts : List SigType) (token : ℕ) : Type 0 where
  pub row : ℕ
  pub blob : ℕ
  pub at : IsRowAt r.referred.locals (one_cell blob) row
  pub signature : HasSignature SpellsLocals r ts blob
  pub is : IsToken token 0x11 row

-- a user string (III.1.9)
pub record IsTextToken (r : References) (units : List ℕ) (token : ℕ) : Type 0 where
  pub index : ℕ
  pub holds : HoldsUnits r.heaps.user (bytes_of_units units) index
  pub is : IsToken token 0x70 index
  pub are_units : AreUnits units

-- ---- what the rows of references are

-- a row of TypeRef is that of a type on the path of a name that can be written (II.22.38)
pub record IsNameRow (r : References) (cells : Cells) : Type 0 where
  pub name : TypeName
  pub can : CanBeNamed r name
  pub lies : LiesOn r.heaps.strings r.referred.names name cells

-- a row of TypeSpec is that of a type (II.22.39)
pub record IsSpecRow (r : References) (cells : Cells) : Type 0 where
  pub of : SigType
  pub blob : ℕ
  pub are : cells ≡ one_cell blob
  pub signature : HasSignature SpellsType r of blob
  pub in_bounds : IsTypeInBounds of

-- a row of StandAloneSig is that of locals (II.22.36)
pub record IsLocalsRow (r : References) (cells : Cells) : Type 0 where
  pub locals : List SigType
  pub blob : ℕ
  pub are : cells ≡ one_cell blob
  pub signature : HasSignature SpellsLocals r locals blob
  pub in_bounds : AreTypesInBounds locals

-- the signature of a member: that of a method, or that of a field
abbrev pub IsMemberSignature : References → ℕ → Type 0
IsMemberSignature r blob = ((s : MethodSig) × HasSignature SpellsMethod r s blob) ⊎ ((t : SigType) × HasSignature SpellsField r t blob)

-- it is in bounds
abbrev pub IsMemberInBounds : (r : References) (blob : ℕ) → IsMemberSignature r blob → Type 0
IsMemberInBounds r blob (inl h) = IsMethodInBounds h.0
IsMemberInBounds r blob (inr h) = IsTypeInBounds h.0

-- a row of MemberRef has the token of an owner, a name and a signature (II.22.25)
pub record IsReferredMember (r : References) (cells : Cells) : Type 0 where
  pub owner : Owner
  pub token : ℕ
  pub name : List ℕ
  pub owner_is : tokens_of r owner ≡ Some token
  pub parent_is : cells.first ≡ index_of_token MemberRefParent token
  pub name_is : HoldsText r.heaps.strings name cells.second
  pub signature : IsMemberSignature r cells.third
  pub named : name ≢ []
  pub in_bounds : IsMemberInBounds r cells.third signature

-- a row of MethodSpec is that of a method with its arguments, as many as its generic parameters (II.22.29)
pub record IsInstanceRow (r : References) (cells : Cells) : Type 0 where
  pub method : MethodRef
  pub generic : ℕ
  pub arguments : List SigType
  pub generic_is : HasGenericToken r method generic
  pub first_is : cells.first ≡ index_of_token MethodDefOrRef generic
  pub signature : HasSignature SpellsInstantiation r arguments cells.second
  pub third_is : cells.third ≡ 0
  pub in_bounds : AreTypesInBounds arguments
  pub count : length arguments ≡ method.sig.generic

-- each row of the tables of references leads to what is there
pub record AreReferred (r : References) : Type 0 where
  pub names : EachRow (IsNameRow r) r.referred.names
  pub specs : EachRow (IsSpecRow r) r.referred.specs
  pub members : EachRow (IsReferredMember r) r.referred.members
  pub instances : EachRow (IsInstanceRow r) r.referred.instances
  pub locals : EachRow (IsLocalsRow r) r.referred.locals

-- Each token that has been given stands for its part of the tree, and each row leads to what is there.
pub record AreKnown (r : References) : Type 0 where
  pub few : length r.declared.types < 2 ^ 24
  pub names : AreNames r.heaps.strings r.declared.types r.referred.names r.known.names
  pub specs : AllByRecursion (λ e. IsSpecToken r e.0 e.1) r.known.specs
  pub methods : AllByRecursion (λ e. IsMethodToken r e.0 e.1) r.known.methods
  pub fields : AllByRecursion (λ e. IsFieldToken r e.0 e.1) r.known.fields
  pub locals : AllByRecursion (λ e. IsLocalsToken r e.0 e.1) r.known.locals
  pub texts : AllByRecursion (λ e. IsTextToken r e.0 e.1) r.known.texts
  pub rows : AreReferred r

-- ---- from one state to a later one

-- contents, rows and tokens that there are stay, and more may have come; nothing more is declared
pub record Grows (old new : References) : Type 0 where
  pub strings : KeepsTexts old.heaps.strings new.heaps.strings
  pub blobs : KeepsBlobs old.heaps.blobs new.heaps.blobs
  pub user : KeepsUnits old.heaps.user new.heaps.user
  pub declared : new.declared ≡ old.declared
  pub names : GoesOn old.referred.names new.referred.names
  pub specs : GoesOn old.referred.specs new.referred.specs
  pub members : GoesOn old.referred.members new.referred.members
  pub instances : GoesOn old.referred.instances new.referred.instances
  pub locals : GoesOn old.referred.locals new.referred.locals
  pub known_names : Learns old.known.names new.known.names
  pub known_specs : Learns old.known.specs new.known.specs
  pub known_methods : Learns old.known.methods new.known.methods
  pub known_fields : Learns old.known.fields new.known.fields
  pub known_locals : Learns old.known.locals new.known.locals
  pub known_texts : Learns old.known.texts new.known.texts

-- the same, where more fields and methods of the declared types may have been declared
pub record Widens (old new : References) : Type 0 where
  pub strings : KeepsTexts old.heaps.strings new.heaps.strings
  pub blobs : KeepsBlobs old.heaps.blobs new.heaps.blobs
  pub user : KeepsUnits old.heaps.user new.heaps.user
  pub types : new.declared.types ≡ old.declared.types
  pub externs : new.declared.externs ≡ old.declared.externs
  pub fields : GoesOn old.declared.fields new.declared.fields
  pub methods : GoesOn old.declared.methods new.declared.methods
  pub names : GoesOn old.referred.names new.referred.names
  pub specs : GoesOn old.referred.specs new.referred.specs
  pub members : GoesOn old.referred.members new.referred.members
  pub instances : GoesOn old.referred.instances new.referred.instances
  pub locals : GoesOn old.referred.locals new.referred.locals
  pub known_names : Learns old.known.names new.known.names
  pub known_specs : Learns old.known.specs new.known.specs
  pub known_methods : Learns old.known.methods new.known.methods
  pub known_fields : Learns old.known.fields new.known.fields
  pub known_locals : Learns old.known.locals new.known.locals
  pub known_texts : Learns old.known.texts new.known.texts

-- so many bytes more at most
pub record Goes (old new : References) (weight : ℕ) : Type 0 where
  pub grows : Grows old new
  pub known : AreKnown new
  pub size : size new ≤ size old + weight
