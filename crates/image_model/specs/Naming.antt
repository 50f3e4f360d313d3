-- What the tokens of an image name (II.22, III.1.9): a TypeDef the type at its path, a TypeRef the type at the path along its
-- scopes, a TypeSpec its term; members with their owners, names and signatures.
use Rattle.std.specs.Prelude.{◌≡◌, ℕ, ◌+◌, ◌^◌, ◌<◌, ◌↔◌, List, [], ◌∷◌, ◌++◌, Option, Some, None, Contains}
use Rattle.heaps.specs.Content.{HasText, HasBlob, HasUnits}
use Rattle.metadata_tables.specs.declared.coded.Coded.TheVariants.{MemberRefParent, MethodDefOrRef, ResolutionScope}
use Rattle.sig_codec.specs.Signature.{IsType, IsMethod, IsField, AreLocals, IsInstantiation}
use Rattle.type_terms.specs.declared.name.Scope.{Scope}
use Rattle.type_terms.specs.declared.name.Scope.TheVariants.{Here, Extern}
use Rattle.type_terms.specs.declared.name.TypeId.{TypeId}
use Rattle.type_terms.specs.declared.reference.FieldRef.{FieldRef}
use Rattle.type_terms.specs.declared.reference.MethodRef.{MethodRef}
use Rattle.type_terms.specs.declared.reference.MethodSig.{MethodSig}
use Rattle.type_terms.specs.declared.term.Owner.{Owner}
use Rattle.type_terms.specs.declared.term.Owner.TheVariants.{Name, Spec}
use Rattle.type_terms.specs.declared.term.SigType.{SigType}
use Rattle.image_model.specs.Streams.{strings_of, user_of, blobs_of}
use Rattle.image_model.specs.Columns.{type_ref_scope, type_ref_name, type_ref_space, type_name, type_space, field_name, field_signature, method_name, method_signature, member_parent, member_name, member_signature, locals_signature, type_spec_signature, instance_method, instance_arguments}
use Rattle.image_model.specs.Units.{units_of}
use Rattle.image_model.specs.Rows.{HasRow, Names, token_of, fields_of, methods_of, enclosing}

-- ---- names of types

-- space and name of a type and of a reference
pub record HasId (image : List ℕ) (type : ℕ) (id : TypeId) : Type 0 where
  pub space : HasText (strings_of image) (type_space image type) id.space
  pub name : HasText (strings_of image) (type_name image type) id.name

pub record HasRefId (image : List ℕ) (row : ℕ) (id : TypeId) : Type 0 where
  pub space : HasText (strings_of image) (type_ref_space image row) id.space
  pub name : HasText (strings_of image) (type_ref_name image row) id.name

-- the path of a type, from its outermost type inward (II.22.32)
pub data HasPath (image : List ℕ) : ℕ → List TypeId → Type 0 where
  top : {type : ℕ} {id : TypeId} → enclosing image type ≡ 0 → HasId image type id → HasPath image type (id ∷ [])
  nested : {type outer : ℕ} {id : TypeId} {before path : List TypeId} → enclosing image type ≡ outer → 0 < outer
      → HasPath image outer before → HasId image type id → path ≡ before ++ id ∷ [] → HasPath image type path

-- the path of a reference along its scopes, and where the path begins (II.22.38)
pub data HasRefPath (image : List ℕ) : ℕ → Scope → List TypeId → Type 0 where
  in_module : {row m : ℕ} {id : TypeId} → Names ResolutionScope (type_ref_scope image row) 0x00 m
      → HasRefId image row id → HasRefPath image row Here (id ∷ [])
  in_assembly : {row assembly k : ℕ} {id : TypeId} → Names ResolutionScope (type_ref_scope image row) 0x23 assembly
      → assembly ≡ k + 1 → HasRefId image row id → HasRefPath image row (Extern k) (id ∷ [])
  in_type : {row outer : ℕ} {scope : Scope} {id : TypeId} {before path : List TypeId}
      → Names ResolutionScope (type_ref_scope image row) 0x01 outer → HasRefPath image outer scope before
      → HasRefId image row id → path ≡ before ++ id ∷ [] → HasRefPath image row scope path

-- a type by its path in this image
abbrev pub here : List TypeId → Owner
here path = Name (record { scope = Here; path = path })

-- ---- tokens

-- A row of TypeDef, TypeRef or TypeSpec is a type. A TypeSpec's term is spelled in its signature, where tokens name what
-- `owners` says.
pub data RowOwner (image : List ℕ) (owners : ℕ → Option Owner) : (table row : ℕ) → Owner → Type 0 where
  defined : {table type : ℕ} {path : List TypeId} → table ≡ 0x02 → HasRow image 0x02 type → HasPath image type path
      → RowOwner image owners table type (here path)
  referred : {table row : ℕ} {scope : Scope} {path : List TypeId} → table ≡ 0x01 → HasRow image 0x01 row
      → HasRefPath image row scope path → RowOwner image owners table row (Name (record { scope = scope; path = path }))
  specified : {table row : ℕ} {bytes : List ℕ} {term : SigType} → table ≡ 0x1B → HasRow image 0x1B row
      → HasBlob (blobs_of image) (type_spec_signature image row) bytes → IsType owners bytes term
      → RowOwner image owners table row (Spec term)

-- a token names a row, which has three bytes in it
pub record IsToken (token table row : ℕ) : Type 0 where
  pub is : token ≡ token_of table row
  pub fits : row < 2 ^ 24

-- a token names a type
pub data NamesOwner (image : List ℕ) (owners : ℕ → Option Owner) : ℕ → Owner → Type 0 where
  by_row : {token table row : ℕ} {owner : Owner} → IsToken token table row → RowOwner image owners table row owner
      → NamesOwner image owners token owner

-- the type to which a method belongs
pub data OwnsMethod (image : List ℕ) : ℕ → Owner → Type 0 where
  owns : {method type : ℕ} {path : List TypeId} → HasRow image 0x02 type → Contains (methods_of image type) method
      → HasPath image type path → OwnsMethod image method (here path)

-- the owner of a MemberRef: a type, or that of the method that its parent is (II.22.25)
pub data OwnsMember (image : List ℕ) (owners : ℕ → Option Owner) : ℕ → Owner → Type 0 where
  by_type : {row table parent : ℕ} {owner : Owner} → Names MemberRefParent (member_parent image row) table parent
      → RowOwner image owners table parent owner → OwnsMember image owners row owner
  by_method : {row method : ℕ} {owner : Owner} → Names MemberRefParent (member_parent image row) 0x06 method
      → OwnsMethod image method owner → OwnsMember image owners row owner

-- a token names a method: a MethodDef, a MemberRef with a method's signature, or one of them with arguments (II.22.29)
pub data NamesMethod (image : List ℕ) (owners : ℕ → Option Owner) : ℕ → MethodRef → Type 0 where
  defined : {method token : ℕ} {owner : Owner} {name bytes : List ℕ} {sig : MethodSig} → IsToken token 0x06 method
      → HasRow image 0x06 method → OwnsMethod image method owner → HasText (strings_of image) (method_name image method) name
      → HasBlob (blobs_of image) (method_signature image method) bytes → IsMethod owners bytes sig
      → NamesMethod image owners token (record { owner = owner; name = name; sig = sig; args = None })
  referred : {row token : ℕ} {owner : Owner} {name bytes : List ℕ} {sig : MethodSig} → IsToken token 0x0A row
      → HasRow image 0x0A row → OwnsMember image owners row owner → HasText (strings_of image) (member_name image row) name
      → HasBlob (blobs_of image) (member_signature image row) bytes → IsMethod owners bytes sig
      → NamesMethod image owners token (record { owner = owner; name = name; sig = sig; args = None })
  instantiated : {row token table method : ℕ} {generic : MethodRef} {bytes : List ℕ} {args : List SigType}
      → IsToken token 0x2B row → HasRow image 0x2B row → Names MethodDefOrRef (instance_method image row) table method
      → NamesMethod image owners (token_of table method) generic
      → HasBlob (blobs_of image) (instance_arguments image row) bytes → IsInstantiation owners bytes args
      → NamesMethod image owners token (record { owner = generic.owner; name = generic.name; sig = generic.sig; args = Some args })

-- a token names a field: a Field, or a MemberRef with a field's signature
pub data NamesField (image : List ℕ) (owners : ℕ → Option Owner) : ℕ → FieldRef → Type 0 where
  defined : {field token type : ℕ} {path : List TypeId} {name bytes : List ℕ} {of : SigType} → IsToken token 0x04 field
      → HasRow image 0x02 type → Contains (fields_of image type) field → HasPath image type path
      → HasText (strings_of image) (field_name image field) name
      → HasBlob (blobs_of image) (field_signature image field) bytes → IsField owners bytes of
      → NamesField image owners token (record { owner = here path; name = name; of = of })
  referred : {row token : ℕ} {owner : Owner} {name bytes : List ℕ} {of : SigType} → IsToken token 0x0A row
      → HasRow image 0x0A row → OwnsMember image owners row owner → HasText (strings_of image) (member_name image row) name
      → HasBlob (blobs_of image) (member_signature image row) bytes → IsField owners bytes of
      → NamesField image owners token (record { owner = owner; name = name; of = of })

-- a token names the locals of a StandAloneSig (II.22.36)
pub data NamesLocals (image : List ℕ) (owners : ℕ → Option Owner) : ℕ → List SigType → Type 0 where
  signed : {row token : ℕ} {bytes : List ℕ} {types : List SigType} → IsToken token 0x11 row → HasRow image 0x11 row
      → HasBlob (blobs_of image) (locals_signature image row) bytes → AreLocals owners bytes types
      → NamesLocals image owners token types

-- a token names a user string, as UTF-16 units (II.24.2.4)
pub data NamesText (image : List ℕ) : ℕ → List ℕ → Type 0 where
  entry : (bytes : List ℕ) {index token : ℕ} {units : List ℕ} → IsToken token 0x70 index → HasUnits (user_of image) index bytes
      → units_of bytes ≡ Some units → NamesText image token units

-- A map tells, of each token, exactly the type that it names. A TypeSpec whose signature leads back to itself has no term,
-- since no term holds itself, and so there is one such map for each image.
abbrev pub TellsOwners : List ℕ → (ℕ → Option Owner) → Type 0
TellsOwners image owners = (token : ℕ) (owner : Owner) → (owners token ≡ Some owner) ↔ NamesOwner image owners token owner
