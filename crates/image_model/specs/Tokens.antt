-- The rows that a signature names (II.23.2): the tokens in it, where it is spelled whole, whatever its tokens name.
use Rattle.std.specs.Prelude.{◌≡◌, ℕ, ◌⊎◌, List, [], ◌∷◌, ◌++◌, Option, Some, Contains}
use Rattle.std.specs.List.{flat_map}
use Rattle.heaps.specs.Content.{HasBlob}
use Rattle.sig_codec.specs.Signature.{IsType, IsMethod, IsField, IsProperty, AreLocals, IsInstantiation}
use Rattle.type_terms.specs.declared.name.Scope.{Scope}
use Rattle.type_terms.specs.declared.name.Scope.TheVariants.{Here, Extern}
use Rattle.type_terms.specs.declared.name.TypeName.{TypeName}
use Rattle.type_terms.specs.declared.reference.MethodSig.{MethodSig}
use Rattle.type_terms.specs.declared.term.Owner.{Owner}
use Rattle.type_terms.specs.declared.term.Owner.TheVariants as owner
use Rattle.type_terms.specs.declared.term.Owner.TheOpen.{Owner-F, SigType-F, Name, Spec, Prim, Class, Value, Inst, Var, MVar, SzArray, Array, ByRef, Pointer, Mod, Pinned}
use Rattle.type_terms.specs.declared.term.SigType.{SigType, fold-SigType}
use Rattle.image_model.specs.Streams.{blobs_of}
use Rattle.image_model.specs.Columns.{field_signature, method_signature, member_signature, property_signature, locals_signature, type_spec_signature, instance_arguments}

-- a plain name for each token, so that a term tells which tokens it was made from
abbrev pub marked : ℕ → Option Owner
marked token = Some (owner.Name (record { scope = Extern token; path = record { space = []; name = [] } ∷ [] }))

abbrev pub mark_in : Scope → List ℕ
mark_in Here = []
mark_in (Extern token) = token ∷ []

abbrev pub mark_of : TypeName → List ℕ
mark_of name = mark_in name.scope

abbrev pub owner_marks : Owner-F (List ℕ) (List ℕ) → List ℕ
owner_marks (Name name) = mark_of name
owner_marks (Spec tokens) = tokens

abbrev pub type_marks : SigType-F (List ℕ) (List ℕ) → List ℕ
type_marks (Class name) = mark_of name
type_marks (Value name) = mark_of name
type_marks (Inst value name args) = mark_of name ++ flat_map (λ tokens. tokens) args
type_marks (SzArray of) = of
type_marks (Array of rank sizes lower) = of
type_marks (ByRef of) = of
type_marks (Pointer of) = of
type_marks (Mod required by of) = by ++ of
type_marks (Pinned of) = of
type_marks (Prim p) = []
type_marks (Var n) = []
type_marks (MVar n) = []

-- the tokens in a type and in a signature
abbrev pub type_tokens : SigType → List ℕ
type_tokens t = fold-SigType (List ℕ) (List ℕ) owner_marks type_marks t

abbrev pub sig_tokens : MethodSig → List ℕ
sig_tokens s = type_tokens s.ret ++ flat_map type_tokens s.params

-- a signature of one of the six kinds holds a token
abbrev pub InType : List ℕ → ℕ → Type 0
InType bytes token = (t : SigType) × IsType marked bytes t × Contains (type_tokens t) token

abbrev pub InField : List ℕ → ℕ → Type 0
InField bytes token = (t : SigType) × IsField marked bytes t × Contains (type_tokens t) token

abbrev pub InMethod : List ℕ → ℕ → Type 0
InMethod bytes token = (s : MethodSig) × IsMethod marked bytes s × Contains (sig_tokens s) token

abbrev pub InProperty : List ℕ → ℕ → Type 0
InProperty bytes token = (s : MethodSig) × IsProperty marked bytes s × Contains (sig_tokens s) token

abbrev pub InLocals : List ℕ → ℕ → Type 0
InLocals bytes token = (ts : List SigType) × AreLocals marked bytes ts × Contains (flat_map type_tokens ts) token

abbrev pub InInstantiation : List ℕ → ℕ → Type 0
InInstantiation bytes token = (ts : List SigType) × IsInstantiation marked bytes ts × Contains (flat_map type_tokens ts) token

-- the signature of a row holds a token; the kind is the one that the row's column wants
pub data SignatureNames (image : List ℕ) : (table row token : ℕ) → Type 0 where
  of_field : {table row token : ℕ} {bytes : List ℕ} → table ≡ 0x04
      → HasBlob (blobs_of image) (field_signature image row) bytes → InField bytes token → SignatureNames image table row token
  of_method : {table row token : ℕ} {bytes : List ℕ} → table ≡ 0x06
      → HasBlob (blobs_of image) (method_signature image row) bytes → InMethod bytes token → SignatureNames image table row token
  of_member : {table row token : ℕ} {bytes : List ℕ} → table ≡ 0x0A
      → HasBlob (blobs_of image) (member_signature image row) bytes → InMethod bytes token ⊎ InField bytes token
      → SignatureNames image table row token
  of_locals : {table row token : ℕ} {bytes : List ℕ} → table ≡ 0x11
      → HasBlob (blobs_of image) (locals_signature image row) bytes → InLocals bytes token → SignatureNames image table row token
  of_property : {table row token : ℕ} {bytes : List ℕ} → table ≡ 0x17
      → HasBlob (blobs_of image) (property_signature image row) bytes → InProperty bytes token → SignatureNames image table row token
  of_type : {table row token : ℕ} {bytes : List ℕ} → table ≡ 0x1B
      → HasBlob (blobs_of image) (type_spec_signature image row) bytes → InType bytes token → SignatureNames image table row token
  of_instance : {table row token : ℕ} {bytes : List ℕ} → table ≡ 0x2B
      → HasBlob (blobs_of image) (instance_arguments image row) bytes → InInstantiation bytes token
      → SignatureNames image table row token
