-- Signatures, and references to methods and fields (ECMA-335 II.10.5, II.15.3, II.15.4, II.23.2.1, II.23.2.2).
use Rattle.std.specs.Prelude.{ℕ, ◌+◌, ◌==◌, nat_lt, false, if◌then◌else◌, List, [], ◌∷◌, length, map, option_map, Option, None, Some}
use Rattle.type_terms.specs.declared.reference.FieldRef.{FieldRef}
use Rattle.type_terms.specs.declared.reference.MethodRef.{MethodRef}
use Rattle.type_terms.specs.declared.reference.MethodSig.{MethodSig}
use Rattle.type_terms.specs.declared.term.Owner.{Owner, Name, Spec}
use Rattle.type_terms.specs.declared.term.SigType.{SigType}
use Rattle.ilasm_grammar.specs.declared.productions.TheConstants.{
  TYPE,
  CALL_CONV,
  INSTANCE,
  EXPLICIT_OPT_SOME,
  CALL_KIND_VARARG,
  TARGET_SCOPE,
  TARGET_TYPE,
  TARGET_NAME,
  TARGET_END,
  METHOD_NAME_NAME,
  METHOD_NAME_CTOR,
  METHOD_NAME_CCTOR,
  METHOD_GENERICS,
  GEN_ARGS_BRACKET,
  SIGNATURE,
  SIG_ARG_ELLIPSIS,
  DEF_ARG,
  DEF_ARGS_OPT_SOME,
  FIELD_TARGET_SCOPE,
  FIELD_TARGET_TYPE,
  FIELD_TARGET_NAME,
}
use Rattle.source_model.specs.Forest.{Forest, Part, parts, each, the, has, child, leaf_at, last_token}
use Rattle.source_model.specs.Names.{or_module, written_name}
use Rattle.source_model.specs.Nodes.{Around, typars}
use Rattle.source_model.specs.Shapes.{natural}
use Rattle.source_model.specs.Source.{Source, spelling}
use Rattle.source_model.specs.Types.{types_in, type_of, the_type}
use Rattle.source_model.specs.Values.{int_at, name_text}

-- ---- names of members

-- the name of a method: a NAME, `.ctor` or `.cctor`
abbrev pub text_of_method_name : Source → List Part → List ℕ
text_of_method_name s [] = []
text_of_method_name s (p ∷ ps) =
    if p.production == METHOD_NAME_NAME then name_text s (leaf_at 0 p.below) else spelling s (leaf_at 0 p.below)

abbrev pub method_name_parts : Forest → List Part
method_name_parts f = parts (METHOD_NAME_NAME ∷ METHOD_NAME_CTOR ∷ METHOD_NAME_CCTOR ∷ []) f

abbrev pub method_name : Source → Forest → List ℕ
method_name s f = text_of_method_name s (method_name_parts f)

-- ---- arguments

-- the arguments, and the `...` among them, in order
abbrev pub arguments : Forest → List Part
arguments f = parts (SIG_ARG_ELLIPSIS ∷ DEF_ARG ∷ []) f

-- how many arguments stand before the first `...`
abbrev pub before_ellipsis : List Part → Option ℕ
before_ellipsis [] = None
before_ellipsis (p ∷ ps) = if p.production == SIG_ARG_ELLIPSIS then Some 0 else option_map (λ n. 1 + n) (before_ellipsis ps)

-- a `...` that no argument follows is no sentinel
abbrev pub sentinel_within : ℕ → Option ℕ → Option ℕ
sentinel_within count None = None
sentinel_within count (Some k) = if nat_lt k count then Some k else None

abbrev pub sentinel : Forest → Option ℕ
sentinel f = sentinel_within (length (each DEF_ARG f)) (before_ellipsis (arguments f))

module _ (s : Source) (a : Around) where
  abbrev pub argument_types : Forest → List SigType
  argument_types f = map (λ d. the_type s a d) (each DEF_ARG f)

  -- ---- methods

  -- `<T, U>`: the arguments of a generic method
  abbrev pub generic_arguments : Forest → Option (List SigType)
  generic_arguments f =
      if has METHOD_GENERICS f then
      if has GEN_ARGS_BRACKET (the METHOD_GENERICS f) then None else Some (types_in s a (the METHOD_GENERICS f))
      else None

  -- the number of generic parameters: that in `<[n]>`, or that of the arguments
  abbrev pub generic_number : Forest → ℕ
  generic_number f =
      if has GEN_ARGS_BRACKET (the METHOD_GENERICS f) then natural (int_at s (leaf_at 1 (the GEN_ARGS_BRACKET (the METHOD_GENERICS f))))
      else length (types_in s a (the METHOD_GENERICS f))

  -- the owner that a reference names; without one it is the class of what stands outside of any class
  abbrev pub owner_of : ℕ → ℕ → ℕ → Forest → Owner
  owner_of scoped typed named f =
      if has typed f then Spec (the_type s a (child (typed ∷ []) f))
      else if has scoped f then Name (or_module s (written_name scoped (child (scoped ∷ []) f)))
      else Name (or_module s (written_name named (child (named ∷ []) f)))

  -- the signature of a reference, from what stands below its production
  abbrev pub reference_signature : Forest → MethodSig
  reference_signature f = record {
    has_this = has INSTANCE (child (CALL_CONV ∷ []) f);
    explicit_this = has EXPLICIT_OPT_SOME (child (CALL_CONV ∷ []) f);
    vararg = has CALL_KIND_VARARG (child (CALL_CONV ∷ []) f);
    generic = generic_number f;
    ret = type_of s a (child (TYPE ∷ []) f);
    params = argument_types (the SIGNATURE f);
    sentinel = sentinel (the SIGNATURE f);
  }

  -- the name of the method: that behind `::`, or where there is none that which the reference names alone
  abbrev pub reference_name : Forest → List ℕ
  reference_name f =
      if has TARGET_END f then method_name s (the TARGET_END f) else name_text s (leaf_at 0 (child (TARGET_NAME ∷ []) f))

  -- a reference to a method, from what stands below its production
  abbrev pub method_ref : Forest → MethodRef
  method_ref f = record {
    owner = owner_of TARGET_SCOPE TARGET_TYPE TARGET_NAME f;
    name = reference_name f;
    sig = reference_signature f;
    args = generic_arguments f;
  }

  -- the signature of a declared method; its generic number is that of its generic parameters
  abbrev pub method_signature : Forest → MethodSig
  method_signature f = record {
    has_this = has INSTANCE (child (CALL_CONV ∷ []) f);
    explicit_this = has EXPLICIT_OPT_SOME (child (CALL_CONV ∷ []) f);
    vararg = has CALL_KIND_VARARG (child (CALL_CONV ∷ []) f);
    generic = length (typars f);
    ret = type_of s a (child (TYPE ∷ []) f);
    params = argument_types (child (DEF_ARGS_OPT_SOME ∷ []) f);
    sentinel = None;
  }

  -- the signature of a property (ECMA-335 II.17, II.23.2.5)
  abbrev pub property_signature : Forest → MethodSig
  property_signature f = record {
    has_this = has INSTANCE (child (CALL_CONV ∷ []) f);
    explicit_this = false;
    vararg = false;
    generic = 0;
    ret = type_of s a (child (TYPE ∷ []) f);
    params = argument_types (child (SIGNATURE ∷ []) f);
    sentinel = None;
  }

  -- ---- fields

  -- a reference to a field, from what stands below its production; its name is its last token
  abbrev pub field_ref : Forest → FieldRef
  field_ref f = record {
    owner = owner_of FIELD_TARGET_SCOPE FIELD_TARGET_TYPE FIELD_TARGET_NAME f;
    name = name_text s (last_token f);
    of = type_of s a (child (TYPE ∷ []) f);
  }
