-- Lines of which the last holds, and the kinds of parts that are gathered.
use Rattle.std.specs.Prelude.{◌≡◌, ℕ, List, [], ◌∷◌, Option, None, Some}
use Rattle.ilasm_grammar.specs.declared.productions.TheConstants.{
  DECL_MODULE,
  DECL_IMAGEBASE,
  DECL_FILE,
  DECL_STACKRESERVE,
  DECL_SUBSYSTEM,
  DECL_CORFLAGS,
  DECL_ASSEMBLY,
  DECL_CLASS,
  DECL_FIELD,
  DECL_METHOD,
  DECL_CUSTOM,
  DECL_DATA,
  MEMBER_CLASS,
  MEMBER_FIELD,
  MEMBER_METHOD,
  MEMBER_PROPERTY,
  MEMBER_EVENT,
  MEMBER_CUSTOM,
  MEMBER_DATA,
  MEMBER_PARAM,
  MEMBER_PACK,
  MEMBER_SIZE,
  KEY_PUBLICKEY,
  KEY_PUBLICKEYTOKEN,
  KEY_CULTURE,
  KEY_LOCALE,
  OVERRIDDEN_METHOD,
  OVERRIDDEN_SPEC,
  PROPERTY_ITEM_GET,
  PROPERTY_ITEM_SET,
  PROPERTY_ITEM_OTHER,
  EVENT_ITEM_ADDON,
  EVENT_ITEM_REMOVEON,
  EVENT_ITEM_FIRE,
  EVENT_ITEM_OTHER,
  DATA_ITEM_BYTES,
  DATA_ITEM_DATA_NUM,
}
use Rattle.source_model.specs.Forest.{Part, preorder}
use Rattle.source_flags.specs.declared.lines.Line.{Line}
use Rattle.source_flags.specs.declared.gathering.Kind.{Kind}
use Rattle.source_flags.specs.declared.gathering.Kind.TheVariants.{One, Declarations, Members, Keys, Cultures, Overrides, Accessors, DataItems}

-- the productions of a kind
abbrev pub productions_of : Kind → List ℕ
productions_of (One p) = p ∷ []
productions_of Declarations =
    DECL_ASSEMBLY ∷ DECL_MODULE ∷ DECL_IMAGEBASE ∷ DECL_FILE ∷ DECL_STACKRESERVE ∷ DECL_SUBSYSTEM ∷ DECL_CORFLAGS ∷ DECL_CLASS
    ∷ DECL_FIELD ∷ DECL_METHOD ∷ DECL_CUSTOM ∷ DECL_DATA ∷ []
productions_of Members =
    MEMBER_CLASS ∷ MEMBER_FIELD ∷ MEMBER_METHOD ∷ MEMBER_PROPERTY ∷ MEMBER_EVENT ∷ MEMBER_CUSTOM ∷ MEMBER_DATA ∷ MEMBER_PARAM
    ∷ MEMBER_PACK ∷ MEMBER_SIZE ∷ []
productions_of Keys = KEY_PUBLICKEY ∷ KEY_PUBLICKEYTOKEN ∷ []
productions_of Cultures = KEY_CULTURE ∷ KEY_LOCALE ∷ []
productions_of Overrides = OVERRIDDEN_METHOD ∷ OVERRIDDEN_SPEC ∷ []
productions_of Accessors =
    PROPERTY_ITEM_GET ∷ PROPERTY_ITEM_SET ∷ PROPERTY_ITEM_OTHER ∷ EVENT_ITEM_ADDON ∷ EVENT_ITEM_REMOVEON ∷ EVENT_ITEM_FIRE
    ∷ EVENT_ITEM_OTHER ∷ []
productions_of DataItems = DATA_ITEM_BYTES ∷ DATA_ITEM_DATA_NUM ∷ []

-- the last of some parts
abbrev pub last_part : List Part → Option Part
last_part [] = None
last_part (p ∷ []) = Some p
last_part (p ∷ q ∷ more) = last_part (q ∷ more)

-- a line is this part
pub record IsPart (x : Line) (p : Part) : Type 0 where
  pub production : x.production ≡ p.production
  pub below : preorder p.below ≡ x.below.now

-- a line is the last of these parts; without a line there is none
abbrev pub IsLast : Option Line → List Part → Type 0
IsLast None ps = ps ≡ []
IsLast (Some x) ps = (p : Part) × (last_part ps ≡ Some p) × IsPart x p
