-- Names of types, types and owners in a listing (ECMA-335 II.7.1, II.14.2, II.23.2.12).
use Rattle.std.specs.Prelude.{ℕ, zero, suc, nat_lt, Bool, true, false, if◌then◌else◌, ℤ, pos, ◌+ℤ◌, ◌-ℤ◌, List, [], ◌∷◌, ◌++◌, length, map, drop, filter, codes, bytes_eq, option_map, Option, None, Some, slice_get}
use Rattle.il_lexer.specs.Classes.{first_is}
use Rattle.il_lexer.specs.declared.types.TokenKind.TheVariants as kind
use Rattle.il_lexer.specs.declared.word.TheConstants as word
use Rattle.ilasm_grammar.specs.declared.productions.TheConstants as p
use Rattle.type_terms.specs.declared.name.Scope as scope
use Rattle.type_terms.specs.declared.name.TypeId.{TypeId}
use Rattle.type_terms.specs.declared.name.TypeName.{TypeName}
use Rattle.type_terms.specs.declared.term.Primitive as prim
use Rattle.type_terms.specs.declared.term.Owner.{Owner, fold-Owner}
use Rattle.type_terms.specs.declared.term.SigType.{SigType, fold-SigType}
use Rattle.type_terms.specs.declared.term.Owner.TheOpen.{Owner-F, SigType-F, Name, Spec, Prim, Class, Value, Inst, Var, MVar, SzArray, Array, ByRef, Pointer, Mod, Pinned}
use Rattle.assembly_tree.specs.declared.assembly.ExternAssembly.{ExternAssembly}
use Rattle.listing_leaves.specs.Names as names
use Rattle.listing_leaves.specs.Numbers.{natural, integer}
use Rattle.listing_model.specs.Shown.{Shown, none, branch, Item, item, put, token, w, optional, star, commas}

-- ---- names

-- a name, and a type's name
abbrev pub name : List ℕ → Shown → Shown
name text after = token kind.Name (names.name text) after

abbrev pub type_id : TypeId → Shown → Shown
type_id id after = token kind.Name (names.type_name id.space id.name) after

-- ---- other assemblies (II.6.3)

-- An assembly has a key of its own where another one has its name, or where its name begins with `#`.
abbrev pub has_alias : List ExternAssembly → ExternAssembly → Bool
has_alias externs e = if first_is 35 e.name then true else nat_lt 1 (length (filter (λ other. bytes_eq other.name e.name) externs))

-- the key `#k`
abbrev pub alias : ℕ → List ℕ
alias k = codes "#" ++ natural k

abbrev pub key_in : List ExternAssembly → ℕ → Option ExternAssembly → List ℕ
key_in externs k None = alias k
key_in externs k (Some e) = if has_alias externs e then alias k else e.name

-- the text by which the assembly with this number is named
abbrev pub extern_key : List ExternAssembly → ℕ → List ℕ
extern_key externs k = key_in externs k (slice_get externs k)

-- ---- types by name

abbrev pub slash_name : TypeId → Item
slash_name id = item p.SLASH_NAME (w word.SLASH (type_id id none))

abbrev pub path_below : List TypeId → Shown
path_below [] = none
path_below (id ∷ ids) = type_id id (star p.SLASH_NAME_STAR_MORE p.SLASH_NAME_STAR_END (map slash_name ids) none)

abbrev pub path : List TypeId → Shown → Shown
path ids after = branch p.PATH (path_below ids) after

-- ---- bases

abbrev pub int_type : prim.Primitive → Item
int_type prim.TheVariants.I1 = item p.INT_TYPE_INT8 (w word.INT8 none)
int_type prim.TheVariants.I2 = item p.INT_TYPE_INT16 (w word.INT16 none)
int_type prim.TheVariants.I4 = item p.INT_TYPE_INT32 (w word.INT32 none)
int_type prim.TheVariants.I8 = item p.INT_TYPE_INT64 (w word.INT64 none)
int_type prim.TheVariants.U1 = item p.INT_TYPE_UINT8 (w word.UINT8 none)
int_type prim.TheVariants.U2 = item p.INT_TYPE_UINT16 (w word.UINT16 none)
int_type prim.TheVariants.U4 = item p.INT_TYPE_UINT32 (w word.UINT32 none)
int_type _ = item p.INT_TYPE_UINT64 (w word.UINT64 none)

abbrev pub native : ℕ → ℕ → Item
native production k = item p.TYPE_BASE_NATIVE (w word.NATIVE (branch production (w k none) none))

abbrev pub primitive : prim.Primitive → Item
primitive prim.TheVariants.Void = item p.TYPE_BASE_VOID (w word.VOID none)
primitive prim.TheVariants.Bool = item p.TYPE_BASE_BOOL (w word.BOOL none)
primitive prim.TheVariants.Char = item p.TYPE_BASE_CHAR (w word.CHAR none)
primitive prim.TheVariants.Str = item p.TYPE_BASE_STRING (w word.STRING none)
primitive prim.TheVariants.Object = item p.TYPE_BASE_OBJECT (w word.OBJECT none)
primitive prim.TheVariants.TypedRef = item p.TYPE_BASE_TYPEDREF (w word.TYPEDREF none)
primitive prim.TheVariants.R4 = item p.TYPE_BASE_FLOAT32 (w word.FLOAT32 none)
primitive prim.TheVariants.R8 = item p.TYPE_BASE_FLOAT64 (w word.FLOAT64 none)
primitive prim.TheVariants.NInt = native p.NATIVE_INT_INT word.INT
primitive prim.TheVariants.NUint = native p.NATIVE_INT_UINT word.UINT
primitive x = item p.TYPE_BASE_INT_TYPE (put (int_type x) none)

-- `!n` and `!!n`
abbrev pub variable : ℕ → ℕ → ℕ → Item
variable production mark n = item production (w mark (branch p.INDEX_INT (token kind.Int (natural n) none) none))

-- ---- shapes of arrays (II.14.2, II.23.2.13)

abbrev pub first : {X : Type 0} → List X → Option X
first [] = None
first (x ∷ xs) = Some x

-- the upper bound of a dimension of so many elements
abbrev pub upper : ℤ → ℕ → Shown
upper l n = token kind.Int (integer ((l +ℤ pos n) -ℤ pos 1)) none

-- a dimension by its size and its lower bound: `n`, `l...`, `l...u`, or nothing
abbrev pub bound : Option ℕ → Option ℤ → Option Item
bound None None = None
bound (Some n) None = Some (item p.BOUND_INT (token kind.Int (natural n) (optional p.BOUND_END_OPT_SOME p.BOUND_END_OPT_NONE None none)))
bound size (Some l) =
    Some (item p.BOUND_INT (token kind.Int (integer l)
    (optional p.BOUND_END_OPT_SOME p.BOUND_END_OPT_NONE (Some (branch p.BOUND_END (w word.ELLIPSIS
    (optional p.INT_OPT_SOME p.INT_OPT_NONE (option_map (upper l) size) none)) none)) none)))

-- the dimensions of an array of this rank, each with its own size and lower bound, if they are given
abbrev pub dimensions : ℕ → List ℕ → List ℤ → List (Option Item)
dimensions zero sizes lower = []
dimensions (suc rank) sizes lower = bound (first sizes) (first lower) ∷ dimensions rank (drop 1 sizes) (drop 1 lower)

abbrev pub bound_opt : Option Item → Shown → Shown
bound_opt b after = optional p.BOUND_OPT_SOME p.BOUND_OPT_NONE (option_map (λ i. put i none) b) after

abbrev pub comma_bound : Option Item → Item
comma_bound b = item p.COMMA_BOUND (w word.COMMA (bound_opt b none))

abbrev pub more_bounds : List (Option Item) → Shown
more_bounds ds = star p.COMMA_BOUND_STAR_MORE p.COMMA_BOUND_STAR_END (map comma_bound ds) (w word.CLOSE_BRACKET none)

-- a dimension with neither is empty, or `...` where it is the only one
abbrev pub shape : List (Option Item) → Item
shape [] = item p.SHAPE_CLOSE (w word.CLOSE_BRACKET none)
shape (None ∷ []) = item p.SHAPE_BOUND (branch p.BOUND_ELLIPSIS (w word.ELLIPSIS none) (more_bounds []))
shape (None ∷ d ∷ ds) = item p.SHAPE_COMMA (w word.COMMA (bound_opt d (more_bounds ds)))
shape (Some b ∷ ds) = item p.SHAPE_BOUND (put b (more_bounds ds))

-- ---- types

-- a type as it is written: a base, and the suffixes behind it, those that are applied first before the others
pub record TypeShown : Type 0 where
  pub base : Item
  pub suffixes : List Item

abbrev pub based : Item → TypeShown
based i = record { base = i; suffixes = [] }

abbrev pub with_suffix : TypeShown → Item → TypeShown
with_suffix t i = record { base = t.base; suffixes = t.suffixes ++ i ∷ [] }

-- what stands below the production of a type
abbrev pub of_shown : TypeShown → Shown
of_shown t = put t.base (star p.TYPE_SUFFIX_STAR_MORE p.TYPE_SUFFIX_STAR_END t.suffixes none)

abbrev pub type_item : TypeShown → Item
type_item t = item p.TYPE (of_shown t)

-- the arguments of a generic type
abbrev pub type_args : List TypeShown → Shown
type_args ts =
    branch p.TYPE_ARGS (w word.LESS (commas p.COMMA_TYPE_STAR_MORE p.COMMA_TYPE_STAR_END p.COMMA_TYPE (map type_item ts) (w word.GREATER none))) none

abbrev pub brackets : Item → Item
brackets s = item p.TYPE_SUFFIX_BRACKET (w word.OPEN_BRACKET (put s none))

abbrev pub modifier : ℕ → ℕ → Item → Item
modifier production k by = item production (w k (w word.OPEN_PAREN (branch by.production by.below (w word.CLOSE_PAREN none))))

module _ (externs : List ExternAssembly) where
  -- a name in brackets
  abbrev pub extern_scope : ℕ → Shown → Shown
  extern_scope k after = token kind.Scope (names.scope (extern_key externs k)) after

  abbrev pub name_in : scope.Scope → List TypeId → Item
  name_in scope.TheVariants.Here ids = item p.TYPE_NAME_PATH (path ids none)
  name_in (scope.TheVariants.Extern k) ids = item p.TYPE_NAME_SCOPE (extern_scope k (path ids none))

  -- a type's name
  abbrev pub type_name : TypeName → Item
  type_name t = name_in t.scope t.path

  -- `class` or `valuetype`, a name, and arguments where there are some
  abbrev pub named : Bool → TypeName → Option Shown → Item
  named value t args =
      item (if value then p.TYPE_BASE_VALUETYPE else p.TYPE_BASE_CLASS)
      (w (if value then word.VALUETYPE else word.CLASS)
      (branch (type_name t).production (type_name t).below (optional p.TYPE_ARGS_OPT_SOME p.TYPE_ARGS_OPT_NONE args none)))

  -- an owner: a name alone, or a type
  abbrev pub owner_step : Owner-F Item TypeShown → Item
  owner_step (Name t) = item p.SPEC_TYPE_NAME (put (type_name t) none)
  owner_step (Spec t) = item p.SPEC_TYPE (branch p.TYPE (of_shown t) none)

  abbrev pub type_step : SigType-F Item TypeShown → TypeShown
  type_step (Prim x) = based (primitive x)
  type_step (Class t) = based (named false t None)
  type_step (Value t) = based (named true t None)
  type_step (Inst value t args) = based (named value t (Some (type_args args)))
  type_step (Var n) = based (variable p.TYPE_BASE_BANG word.BANG n)
  type_step (MVar n) = based (variable p.TYPE_BASE_DOUBLE_BANG word.DOUBLE_BANG n)
  type_step (SzArray of) = with_suffix of (brackets (item p.SHAPE_CLOSE (w word.CLOSE_BRACKET none)))
  type_step (Array of rank sizes lower) = with_suffix of (brackets (shape (dimensions rank sizes lower)))
  type_step (ByRef of) = with_suffix of (item p.TYPE_SUFFIX_AMPERSAND (w word.AMPERSAND none))
  type_step (Pointer of) = with_suffix of (item p.TYPE_SUFFIX_STAR (w word.STAR none))
  type_step (Mod required by of) =
      with_suffix of (if required then modifier p.TYPE_SUFFIX_MODREQ word.MODREQ by else modifier p.TYPE_SUFFIX_MODOPT word.MODOPT by)
  type_step (Pinned of) = with_suffix of (item p.TYPE_SUFFIX_PINNED (w word.PINNED none))

  unfoldable pub shown_type : SigType → TypeShown
  shown_type t = fold-SigType Item TypeShown owner_step type_step t

  -- an owner, as what stands for `Spec`
  unfoldable pub owner : Owner → Item
  owner o = fold-Owner Item TypeShown owner_step type_step o

  -- what stands below the production of a type, and the type with its production
  abbrev pub type_below : SigType → Shown
  type_below t = of_shown (shown_type t)

  abbrev pub type_of : SigType → Item
  type_of t = item p.TYPE (type_below t)
