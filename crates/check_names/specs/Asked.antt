-- The productions of which a rule speaks that is asked of each production by itself, and methods (ECMA-335 II.5.8, II.10, II.15, II.23.2).
use Rattle.std.specs.Prelude.{ℕ, Bool, ◌||◌, List, [], ◌∷◌}
use Rattle.ilasm_grammar.specs.declared.productions.TheConstants.{ASSEMBLY_ATTR_FLAGS, ASSEMBLY_ITEM_HASH, AT_NAME, CLASS, CLASS_ATTR_FLAGS, CONST_CHAR, CONST_FLOAT32, CONST_FLOAT64, CONST_INT_TYPE, DATA, DATA_ITEM_DATA_NUM, DECL_CORFLAGS, DECL_FILE, DECL_IMAGEBASE, DECL_STACKRESERVE, DECL_SUBSYSTEM, DEF_ARGS, FIELD, FIELD_TARGET_NAME, FIELD_TARGET_SCOPE, GEN_ARGS_BRACKET, GEN_ARGS_TYPE, IMPL_ATTR_FLAGS, KEY_VER, MEMBER_PACK, MEMBER_PARAM, MEMBER_SIZE, METHOD, PARAM_ATTR_FLAGS, PARAM_OF_BRACKET, PARAM_OF_TYPE, PROPERTY, SIGNATURE, TARGET_NAME, TARGET_SCOPE, TYPARS, TYPE_BASE_BANG, TYPE_BASE_DOUBLE_BANG, TYPE_NAME_PATH, TYPE_NAME_SCOPE, TYPE_SUFFIX_BRACKET}
use Rattle.source_model.specs.Forest.{is_among}
use Rattle.source_model.specs.OutOfRange.{flags_of_16_bits, without_arguments}

-- those that begin with a type's name
abbrev pub named : List ℕ
named = TYPE_NAME_SCOPE ∷ TARGET_SCOPE ∷ FIELD_TARGET_SCOPE ∷ TYPE_NAME_PATH ∷ TARGET_NAME ∷ FIELD_TARGET_NAME ∷ []

-- generic parameters and arguments, and what is said of parameters
abbrev pub generic : List ℕ
generic =
    TYPE_BASE_BANG ∷ TYPE_BASE_DOUBLE_BANG ∷ MEMBER_PARAM ∷ PARAM_OF_TYPE ∷ PARAM_OF_BRACKET ∷ GEN_ARGS_BRACKET ∷ GEN_ARGS_TYPE
    ∷ TYPARS ∷ []

-- numbers of the manifest
abbrev pub of_manifest : List ℕ
of_manifest =
    KEY_VER ∷ DECL_SUBSYSTEM ∷ DECL_STACKRESERVE ∷ ASSEMBLY_ITEM_HASH ∷ DECL_IMAGEBASE ∷ DECL_FILE ∷ DECL_CORFLAGS ∷ []

abbrev pub flags : List ℕ
flags = ASSEMBLY_ATTR_FLAGS ∷ CLASS_ATTR_FLAGS ∷ IMPL_ATTR_FLAGS ∷ PARAM_ATTR_FLAGS ∷ flags_of_16_bits

abbrev pub constants : List ℕ
constants = CONST_INT_TYPE ∷ CONST_FLOAT32 ∷ CONST_FLOAT64 ∷ CONST_CHAR ∷ []

-- classes, their layouts, data, and methods, around whose parts something else stands
abbrev pub laid_out : List ℕ
laid_out = CLASS ∷ MEMBER_PACK ∷ MEMBER_SIZE ∷ FIELD ∷ DATA ∷ DATA_ITEM_DATA_NUM ∷ AT_NAME ∷ METHOD ∷ []

-- references that can't have generic arguments, and properties
abbrev pub barred : List ℕ
barred = PROPERTY ∷ without_arguments

-- signatures and shapes of arrays
abbrev pub shaped : List ℕ
shaped = SIGNATURE ∷ DEF_ARGS ∷ TYPE_SUFFIX_BRACKET ∷ []

abbrev pub is_asked : ℕ → Bool
is_asked p =
    is_among named p || is_among generic p || is_among of_manifest p || is_among flags p || is_among constants p
    || is_among laid_out p || is_among barred p || is_among shaped p
