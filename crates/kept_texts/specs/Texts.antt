-- What is kept of the locals and the user strings of an image (II.22.36, II.24.2.4).
use Rattle.std.specs.Prelude.{ℕ, ◌<◌, ◌≤◌, ◌^◌, List, Option, Contains, map}
use Rattle.body_outlines.specs.Outlines.{Outlines}
use Rattle.body_outlines.specs.declared.outlined.BodyOutline.{BodyOutline}
use Rattle.body_outlines.specs.declared.outlined.TokenUse.{TokenUse}
use Rattle.image_model.specs.Bodies.{body_of}
use Rattle.image_model.specs.Naming.{NamesLocals, NamesText}
use Rattle.image_model.specs.Rows.{HasRow, token_of}
use Rattle.image_model.specs.Terms.{LocalsHave}
use Rattle.image_model.specs.Used.{IsUsed}
use Rattle.image_source.specs.Names.{names_of}
use Rattle.kept_names.specs.declared.names.KeptNames.{KeptNames}
use Rattle.method_states.specs.States.{HasGoodBody}
use Rattle.row_demands.specs.Structured.{MeetStructure}
use Rattle.type_terms.specs.declared.term.SigType.{SigType}
use Rattle.kept_members.specs.Maps.{Has, AreTrue}
use Rattle.kept_members.specs.Members.{owners_of, IsInUse}

-- ---- locals

-- the signatures of locals in use are spelled, by what is kept of the types that tokens name
pub record CanKeepLocals (image : List ℕ) (known : KeptNames) : Type 0 where
  pub structure : MeetStructure image
  pub locals : (row : ℕ) → IsUsed image 0x11 row → (types : List SigType) × LocalsHave image (names_of known) row types

-- a token names locals, by what is kept
abbrev pub AreLocalsOf : List ℕ → KeptNames → ℕ → List SigType → Type 0
AreLocalsOf image known token types = NamesLocals image (owners_of known) token types × IsInUse image token

-- locals in use that have a token
abbrev pub AreInUse : List ℕ → ℕ → Type 0
AreInUse image row = IsUsed image 0x11 row × (row < 2 ^ 24)

abbrev pub HasLocals : List ℕ → (ℕ → Option (List SigType)) → Type 0
HasLocals image locals = (row : ℕ) → AreInUse image row → Has locals (token_of 0x11 row)

-- the locals in use are kept, as what they are
pub record AreLocalsKept (image : List ℕ) (known : KeptNames) (locals : ℕ → Option (List SigType)) : Type 0 where
  pub so : AreTrue (AreLocalsOf image known) locals
  pub has : HasLocals image locals

-- ---- user strings

-- what each of these tokens names as a user string is kept
abbrev pub HasTextsAt : List ℕ → List ℕ → (ℕ → Option (List ℕ)) → Type 0
HasTextsAt image tokens texts = (token : ℕ) (units : List ℕ) → Contains tokens token → NamesText image token units → Has texts token

-- the tokens that are operands
abbrev pub operands_of : BodyOutline → List ℕ
operands_of o = map (λ (u : TokenUse). u.token) o.operands

-- the user strings that the operands of a method's body name are kept
abbrev pub HasTextsOf : List ℕ → (ℕ → Option (List ℕ)) → ℕ → Type 0
HasTextsOf image texts method = HasGoodBody image method → (o : BodyOutline) → Outlines (body_of image method) o → HasTextsAt image (operands_of o) texts

-- those of the first so many methods
abbrev pub HasTextsTo : List ℕ → (ℕ → Option (List ℕ)) → ℕ → Type 0
HasTextsTo image texts count = (method : ℕ) → HasRow image 0x06 method → method ≤ count → HasTextsOf image texts method

-- the user strings that operands in good bodies name are kept, as what they are
pub record AreTextsKept (image : List ℕ) (texts : ℕ → Option (List ℕ)) : Type 0 where
  pub so : AreTrue (NamesText image) texts
  pub has : (method : ℕ) → HasRow image 0x06 method → HasTextsOf image texts method
