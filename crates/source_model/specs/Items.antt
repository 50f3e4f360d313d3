-- The declarations of a source, of a class and of a method's body, in order, and to which of them a custom attribute
-- belongs (ECMA-335 II.5.10, II.10.2, II.15.4.1, II.21).
use Rattle.std.specs.Prelude.{ℕ, ◌==◌, ◌||◌, Bool, false, if◌then◌else◌, List, [], ◌∷◌, ◌++◌, take_while}
use Rattle.ilasm_grammar.specs.declared.productions.TheConstants.{
  DECL_MODULE,
  DECL_IMAGEBASE,
  DECL_FILE,
  DECL_STACKRESERVE,
  DECL_SUBSYSTEM,
  DECL_CORFLAGS,
  DECL_ASSEMBLY,
  DECL_CLASS,
  DECL_FIELD,
  DECL_METHOD,
  DECL_CUSTOM,
  DECL_DATA,
  MEMBER_CLASS,
  MEMBER_FIELD,
  MEMBER_METHOD,
  MEMBER_PROPERTY,
  MEMBER_EVENT,
  MEMBER_CUSTOM,
  MEMBER_DATA,
  MEMBER_PARAM,
  MEMBER_PACK,
  MEMBER_SIZE,
  ITEM_NAME,
  ITEM_INSTRUCTION,
  ITEM_MAXSTACK,
  ITEM_ENTRYPOINT,
  ITEM_CUSTOM,
  ITEM_LOCALS,
  ITEM_OVERRIDE,
  ITEM_PARAM,
  ITEM_TRY,
  BLOCK,
}
use Rattle.source_model.specs.Forest.{Forest, none, leaf, branch, Part, part, parts, is_among}

-- the declarations outside of any class
abbrev pub declarations : Forest → List Part
declarations f =
    parts
    (DECL_ASSEMBLY ∷ DECL_MODULE ∷ DECL_IMAGEBASE ∷ DECL_FILE ∷ DECL_STACKRESERVE ∷ DECL_SUBSYSTEM ∷ DECL_CORFLAGS ∷ DECL_CLASS
    ∷ DECL_FIELD ∷ DECL_METHOD ∷ DECL_CUSTOM ∷ DECL_DATA ∷ [])
    f

-- the members of a class, from what stands below its production, and none of a class within it
abbrev pub members : Forest → List Part
members f =
    parts
    (MEMBER_CLASS ∷ MEMBER_FIELD ∷ MEMBER_METHOD ∷ MEMBER_PROPERTY ∷ MEMBER_EVENT ∷ MEMBER_CUSTOM ∷ MEMBER_DATA ∷ MEMBER_PARAM
    ∷ MEMBER_PACK ∷ MEMBER_SIZE ∷ [])
    f

-- the items of a body that hold no other items
abbrev pub plain_items : List ℕ
plain_items =
    ITEM_NAME ∷ ITEM_INSTRUCTION ∷ ITEM_MAXSTACK ∷ ITEM_ENTRYPOINT ∷ ITEM_CUSTOM ∷ ITEM_LOCALS ∷ ITEM_OVERRIDE ∷ ITEM_PARAM ∷ []

-- The items of a method, in order, from what stands below its production. Inner braces mean nothing, and the items of the
-- blocks of `.try` stand among the others.
abbrev pub items : Forest → List Part
items f = parts plain_items f

-- ---- runs of attributes

-- The same items, with the begin and the end of each `.try` and of each of its blocks among them, which end a run.
abbrev pub items_and_ends : Forest → List Part
items_and_ends none = []
items_and_ends (leaf token after) = items_and_ends after
items_and_ends (branch p below after) =
    (if is_among plain_items p then part p below ∷ []
    else if p == ITEM_TRY || p == BLOCK then (part p none ∷ items_and_ends below) ++ part p none ∷ []
    else items_and_ends below)
    ++ items_and_ends after

abbrev pub is_custom : Part → Bool
is_custom p = p.production == DECL_CUSTOM || p.production == MEMBER_CUSTOM || p.production == ITEM_CUSTOM

-- what an attribute that directly follows belongs to: a field, or what a `.param` speaks of
abbrev pub begins_run : Part → Bool
begins_run p =
    p.production == DECL_FIELD || p.production == MEMBER_FIELD || p.production == MEMBER_PARAM || p.production == ITEM_PARAM

-- a declaration with the attributes that directly follow it
pub record Run : Type 0 where
  pub head : Part
  pub customs : List Part

-- each declaration with those that directly follow it
abbrev pub runs : List Part → List Run
runs [] = []
runs (p ∷ ps) = record { head = p; customs = take_while is_custom ps } ∷ runs ps

-- the attributes that belong to what surrounds them: those that follow no field and no `.param`, with nothing but
-- attributes between
abbrev pub customs_outside : Bool → List Part → List Part
customs_outside in_run [] = []
customs_outside in_run (p ∷ ps) =
    if is_custom p then (if in_run then [] else p ∷ []) ++ customs_outside in_run ps else customs_outside (begins_run p) ps

abbrev pub own_customs : List Part → List Part
own_customs ps = customs_outside false ps
