-- Laws of what the tokens of an image name (ECMA-335 II.22, III.1.9).
use Rattle.std.specs.Prelude.{◌≡◌, ℕ, ◌^◌, ◌≤◌, List, Option, Contains, length}
use Rattle.type_terms.specs.declared.reference.MethodSig.{MethodSig}
use Rattle.type_terms.specs.declared.term.Owner.{Owner}
use Rattle.type_terms.specs.declared.term.SigType.{SigType}
use Rattle.sig_codec.specs.Signature.{IsType, IsMethod, IsField, IsProperty, AreLocals, IsInstantiation}
use Rattle.assembly_tree.specs.declared.body.Body.{Body}
use Rattle.body_codec.specs.Names.{NameMap, reading}
use Rattle.body_codec.specs.Bodies.{Spells}
use Rattle.body_codec.specs.NamedTokens.{AreNamed}
use Rattle.image_model.specs.Tokens.{InType, InMethod, InField, InProperty, InLocals, InInstantiation}
use Rattle.image_model.specs.Namings.{AreNamings}
use Rattle.image_model.specs.Faults.{signatures, HoldBefore, HasTables}

-- Where I1 to I13 hold of an image of at most 2^26 bytes, there are maps that tell what its tokens name. Up to I13 no demand
-- speaks of what tokens name, so any maps may stand in them. The length bounds the rows that a token can name: a longer image
-- could have rows of methods past three bytes.
abbrev pub NamingExists : Type 0
NamingExists =
    (image : List ℕ) (any : NameMap) → length image ≤ 2 ^ 26 → HasTables image → HoldBefore image any signatures
    → (names : NameMap) × AreNamings image names

-- ---- a namer that knows only some tokens

-- two maps tell the same of each token of which this holds
abbrev pub TellSame : (ℕ → Option Owner) → (ℕ → Option Owner) → (ℕ → Type 0) → Type 0
TellSame owners others Holds = (token : ℕ) → Holds token → owners token ≡ others token

-- What bytes spell as a signature is what they spell by any map that tells the same of the tokens in it.
pub record HangOnTokens : Type 0 where
  pub type_of : (owners others : ℕ → Option Owner) (bytes : List ℕ) (t : SigType) → TellSame owners others (InType bytes) → IsType owners bytes t → IsType others bytes t
  pub method : (owners others : ℕ → Option Owner) (bytes : List ℕ) (s : MethodSig) → TellSame owners others (InMethod bytes) → IsMethod owners bytes s → IsMethod others bytes s
  pub field : (owners others : ℕ → Option Owner) (bytes : List ℕ) (t : SigType) → TellSame owners others (InField bytes) → IsField owners bytes t → IsField others bytes t
  pub property : (owners others : ℕ → Option Owner) (bytes : List ℕ) (s : MethodSig) → TellSame owners others (InProperty bytes) → IsProperty owners bytes s → IsProperty others bytes s
  pub locals : (owners others : ℕ → Option Owner) (bytes : List ℕ) (ts : List SigType) → TellSame owners others (InLocals bytes) → AreLocals owners bytes ts → AreLocals others bytes ts
  pub instantiation : (owners others : ℕ → Option Owner) (bytes : List ℕ) (ts : List SigType) → TellSame owners others (InInstantiation bytes) → IsInstantiation owners bytes ts → IsInstantiation others bytes ts

-- two namers tell the same of a token
pub record AgreeAt (names others : NameMap) (token : ℕ) : Type 0 where
  pub owners : names.owners token ≡ others.owners token
  pub methods : names.methods token ≡ others.methods token
  pub fields : names.fields token ≡ others.fields token
  pub locals : names.locals token ≡ others.locals token
  pub texts : names.texts token ≡ others.texts token

-- What bytes spell as a body is what they spell by any namer that tells the same of the tokens that the body names.
abbrev pub BodiesHangOnTokens : Type 0
BodiesHangOnTokens =
    (names others : NameMap) (bytes tokens : List ℕ) (body : Body) (size : ℕ) → AreNamed bytes tokens → ((token : ℕ) → Contains tokens token → AgreeAt names others token)
    → Spells (reading names) bytes body size → Spells (reading others) bytes body size
