-- Signatures, and references to methods and fields in a listing (ECMA-335 II.10.5, II.15.3, II.15.4, II.23.2.1).
use Rattle.std.specs.Prelude.{ℕ, nat_lt, Bool, if◌then◌else◌, List, [], ◌∷◌, ◌++◌, map, take, drop, codes, bytes_eq, Option, None, Some}
use Rattle.il_lexer.specs.declared.types.TokenKind.TheVariants as kind
use Rattle.il_lexer.specs.declared.word.TheConstants as word
use Rattle.ilasm_grammar.specs.declared.productions.TheConstants as p
use Rattle.type_terms.specs.declared.name.Scope as scope
use Rattle.type_terms.specs.declared.name.TypeId.{TypeId}
use Rattle.type_terms.specs.declared.reference.FieldRef.{FieldRef}
use Rattle.type_terms.specs.declared.reference.MethodRef.{MethodRef}
use Rattle.type_terms.specs.declared.reference.MethodSig.{MethodSig}
use Rattle.type_terms.specs.declared.term.Owner.{Owner, out-Owner}
use Rattle.type_terms.specs.declared.term.SigType.{SigType}
use Rattle.type_terms.specs.declared.term.Owner.TheOpen.{Owner-F, Name, Spec}
use Rattle.assembly_tree.specs.WellFormedNames.{is_module}
use Rattle.assembly_tree.specs.declared.assembly.ExternAssembly.{ExternAssembly}
use Rattle.listing_leaves.specs.Numbers.{natural}
use Rattle.listing_model.specs.Shown.{Shown, none, branch, Item, item, put, token, w, optional, when, star, commas}
use Rattle.listing_model.specs.Types.{name, type_id, path, type_of, extern_scope}

-- ---- calling conventions

abbrev pub instance : Bool → Shown
instance explicit =
    branch p.INSTANCE (w word.INSTANCE (optional p.EXPLICIT_OPT_SOME p.EXPLICIT_OPT_NONE (when explicit (w word.EXPLICIT none)) none)) none

abbrev pub convention : MethodSig → Shown → Shown
convention s after =
    branch p.CALL_CONV
    (optional p.INSTANCE_OPT_SOME p.INSTANCE_OPT_NONE (when s.has_this (instance s.explicit_this))
    (optional p.CALL_KIND_OPT_SOME p.CALL_KIND_OPT_NONE (when s.vararg (branch p.CALL_KIND_VARARG (w word.VARARG none) none)) none))
    after

-- ---- names of methods

-- `.ctor` and `.cctor` as these words, any other name as a name
abbrev pub method_name : List ℕ → Item
method_name text =
    if bytes_eq text (codes ".ctor") then item p.METHOD_NAME_CTOR (w word.DOT_CTOR none)
    else if bytes_eq text (codes ".cctor") then item p.METHOD_NAME_CCTOR (w word.DOT_CCTOR none)
    else item p.METHOD_NAME_NAME (name text none)

-- ---- arguments

abbrev pub no_param_flags : Shown → Shown
no_param_flags after = star p.PARAM_ATTR_STAR_MORE p.PARAM_ATTR_STAR_END [] after

abbrev pub no_name : Shown
no_name = optional p.NAME_OPT_SOME p.NAME_OPT_NONE None none

abbrev pub ellipsis : Item
ellipsis = item p.SIG_ARG_ELLIPSIS (w word.ELLIPSIS none)

-- the arguments with `...` before the first of those behind the sentinel
abbrev pub with_sentinel : Option ℕ → List Item → List Item
with_sentinel None args = args
with_sentinel (Some k) args = take k args ++ ellipsis ∷ drop k args

abbrev pub sig_args : List Item → Option Shown
sig_args [] = None
sig_args (i ∷ is) =
    Some (branch p.SIG_ARGS (commas p.COMMA_SIG_ARG_STAR_MORE p.COMMA_SIG_ARG_STAR_END p.COMMA_SIG_ARG (i ∷ is) none) none)

abbrev pub in_parentheses : List Item → Shown → Shown
in_parentheses args after =
    branch p.SIGNATURE (w word.OPEN_PAREN (optional p.SIG_ARGS_OPT_SOME p.SIG_ARGS_OPT_NONE (sig_args args) (w word.CLOSE_PAREN none))) after

module _ (externs : List ExternAssembly) where
  -- an argument without a name
  abbrev pub argument : SigType → Item
  argument t = item p.SIG_ARG_DEF_ARG (branch p.DEF_ARG (no_param_flags (put (type_of externs t) no_name)) none)

  -- the arguments of a signature in parentheses
  abbrev pub arguments : MethodSig → Shown → Shown
  arguments s after = in_parentheses (with_sentinel s.sentinel (map (argument) s.params)) after

  -- `<T, U>`, or `<[n]>` where a generic method is named without arguments
  abbrev pub generic_types : List SigType → Item
  generic_types ts =
      item p.GEN_ARGS_TYPE (commas p.COMMA_TYPE_STAR_MORE p.COMMA_TYPE_STAR_END p.COMMA_TYPE (map (type_of externs) ts) none)

  abbrev pub generic_count : ℕ → Item
  generic_count n = item p.GEN_ARGS_BRACKET (w word.OPEN_BRACKET (token kind.Int (natural n) (w word.CLOSE_BRACKET none)))

  abbrev pub in_angles : Item → Shown
  in_angles args = branch p.METHOD_GENERICS (w word.LESS (put args (w word.GREATER none))) none

  abbrev pub method_generics : ℕ → Option (List SigType) → Option Shown
  method_generics n (Some ts) = Some (in_angles (generic_types ts))
  method_generics n None = when (nat_lt 0 n) (in_angles (generic_count n))

  abbrev pub generics_and_arguments : MethodRef → Shown → Shown
  generics_and_arguments r after =
      optional p.METHOD_GENERICS_OPT_SOME p.METHOD_GENERICS_OPT_NONE (method_generics r.sig.generic r.args) (arguments r.sig after)

  -- what stands behind `::`
  abbrev pub target_end : MethodRef → Shown
  target_end r =
      w word.DOUBLE_COLON (branch p.TARGET_END (put (method_name r.name) (generics_and_arguments r none)) none)

  -- ---- owners

  -- The owner `<Module>` is left out.
  abbrev pub target_path : List TypeId → MethodRef → Shown
  target_path [] r = branch p.NAME_TAIL_METHOD_GENERICS_OPT (generics_and_arguments r none) none
  target_path (id ∷ []) r = branch p.NAME_TAIL_DOUBLE_COLON (target_end r) none
  target_path (id ∷ next ∷ more) r = branch p.NAME_TAIL_SLASH (w word.SLASH (path (next ∷ more) (target_end r))) none

  abbrev pub target_here : List TypeId → MethodRef → Item
  target_here [] r = item p.TARGET_NAME (name r.name (target_path [] r))
  target_here (id ∷ []) r =
      if is_module id then item p.TARGET_NAME (name r.name (target_path [] r)) else item p.TARGET_NAME (type_id id (target_path (id ∷ []) r))
  target_here (id ∷ next ∷ more) r = item p.TARGET_NAME (type_id id (target_path (id ∷ next ∷ more) r))

  abbrev pub target_in : scope.Scope → List TypeId → MethodRef → Item
  target_in scope.TheVariants.Here ids r = target_here ids r
  target_in (scope.TheVariants.Extern k) ids r = item p.TARGET_SCOPE (extern_scope externs k (path ids (target_end r)))

  abbrev pub target_of : Owner-F Owner SigType → MethodRef → Item
  target_of (Name t) r = target_in t.scope t.path r
  target_of (Spec t) r = item p.TARGET_TYPE (put (type_of externs t) (target_end r))

  -- ---- references

  -- a reference to a method, as what stands for `Ref`
  unfoldable pub method_ref : MethodRef → Item
  method_ref r =
      item p.METHOD_REF (convention r.sig (put (type_of externs r.sig.ret) (put (target_of (out-Owner r.owner) r) none)))

  abbrev pub field_end : FieldRef → Shown
  field_end r = w word.DOUBLE_COLON (name r.name none)

  abbrev pub field_path : List TypeId → FieldRef → Shown
  field_path [] r = branch p.FIELD_TAIL_NONE none none
  field_path (id ∷ []) r = branch p.FIELD_TAIL_DOUBLE_COLON (field_end r) none
  field_path (id ∷ next ∷ more) r = branch p.FIELD_TAIL_SLASH (w word.SLASH (path (next ∷ more) (field_end r))) none

  abbrev pub field_here : List TypeId → FieldRef → Item
  field_here [] r = item p.FIELD_TARGET_NAME (name r.name (field_path [] r))
  field_here (id ∷ []) r =
      if is_module id then item p.FIELD_TARGET_NAME (name r.name (field_path [] r))
      else item p.FIELD_TARGET_NAME (type_id id (field_path (id ∷ []) r))
  field_here (id ∷ next ∷ more) r = item p.FIELD_TARGET_NAME (type_id id (field_path (id ∷ next ∷ more) r))

  abbrev pub field_in : scope.Scope → List TypeId → FieldRef → Item
  field_in scope.TheVariants.Here ids r = field_here ids r
  field_in (scope.TheVariants.Extern k) ids r = item p.FIELD_TARGET_SCOPE (extern_scope externs k (path ids (field_end r)))

  abbrev pub field_target : Owner-F Owner SigType → FieldRef → Item
  field_target (Name t) r = field_in t.scope t.path r
  field_target (Spec t) r = item p.FIELD_TARGET_TYPE (put (type_of externs t) (field_end r))

  -- a reference to a field, as what stands for `FRef`
  unfoldable pub field_ref : FieldRef → Item
  field_ref r = item p.FIELD_REF (put (type_of externs r.of) (put (field_target (out-Owner r.owner) r) none))
