-- When a source breaks no rule, by its productions (ECMA-335 II.5 to II.19).
use Rattle.std.specs.Prelude.{◌≡◌, ℕ, not, true, false, List, [], ◌∷◌, filter, ⊤}
use Rattle.std.specs.List.{flat_map, enumerate_from}
use Rattle.ilasm_grammar.specs.declared.productions.TheConstants.{TYPE_NAME_SCOPE, TARGET_SCOPE, FIELD_TARGET_SCOPE, TYPE_NAME_PATH, TARGET_NAME, FIELD_TARGET_NAME, TYPE_BASE_BANG, TYPE_BASE_DOUBLE_BANG, MEMBER_PARAM, PARAM_OF_TYPE, KEY_VER, DECL_SUBSYSTEM, DECL_STACKRESERVE, ASSEMBLY_ITEM_HASH, DECL_IMAGEBASE, DECL_FILE, DECL_CORFLAGS, ASSEMBLY_ATTR_FLAGS, CLASS_ATTR_FLAGS, IMPL_ATTR_FLAGS, FIELD_ATTR_FLAGS, METHOD_ATTR_FLAGS, TYPAR_ATTR_FLAGS, PROPERTY_ATTR_FLAGS, FLAGS_OPT_SOME, CONST_INT_TYPE, CONST_FLOAT32, CONST_FLOAT64, CONST_CHAR, MEMBER_PACK, MEMBER_SIZE, FIELD, DATA_ITEM_DATA_NUM, DATA, PARAM_OF_BRACKET, CUSTOM, OVERRIDDEN_METHOD, PROPERTY_ITEM_GET, PROPERTY_ITEM_SET, PROPERTY_ITEM_OTHER, EVENT_ITEM_ADDON, EVENT_ITEM_REMOVEON, EVENT_ITEM_FIRE, EVENT_ITEM_OTHER, PROPERTY, TYPE_SUFFIX_BRACKET, GEN_ARGS_BRACKET, GEN_ARGS_TYPE, SIGNATURE, DEF_ARGS, PARAM_ATTR_FLAGS, TYPARS, TYPE, CLASS, AT_NAME, EVENT, METHOD, INSTRUCTION_OP_VAR}
use Rattle.source_model.specs.BodyFaults.{is_same_name, label_names, variable_undeclared, branch_too_far, targets_at_the_end, clause_backwards}
use Rattle.source_model.specs.BodyNumbers.{body_numbers_out_of_range_in}
use Rattle.source_model.specs.Clauses.{guarded}
use Rattle.source_model.specs.DeclaredTwice.{repeats, types_twice, members_twice, externs_twice, entries_twice, manifests_twice, data_twice}
use Rattle.source_model.specs.Denotes.{broken}
use Rattle.source_model.specs.Faults.{IsFaultless}
use Rattle.source_model.specs.Forest.{Forest, branch, parts, is_among}
use Rattle.source_model.specs.Instructions.{instructions_of, instructions_with, labels, is_label}
use Rattle.source_model.specs.Nodes.{Around, Node, nodes, nodes_in, entered}
use Rattle.source_model.specs.OutOfRange.{number_out_of_range_at, class_too_deep, data_too_short_of, data_unsized_of}
use Rattle.source_model.specs.Source.{Source}
use Rattle.source_model.specs.TypeRules.{type_undeclared, scope_undeclared, typar_undeclared, type_too_deep, path_too_long}
use Rattle.source_model.specs.Undeclared.{object_undeclared_of, param_type_undeclared, accessors_undeclared_of, assembly_undeclared, label_undeclared_of}

-- ---- one production

-- a method breaks no rule on labels, variables, branches, clauses and the numbers of its body
pub record MethodBreaksNothing (s : Source) (n : Node) : Type 0 where
  pub labels_once : repeats (is_same_name s) (labels n.below) ≡ []
  pub labels_known : filter (λ k. not (is_label s n.below k)) (label_names n.below) ≡ []
  pub variables : flat_map (variable_undeclared s n.below) (instructions_with INSTRUCTION_OP_VAR n.below) ≡ []
  pub branches : flat_map (branch_too_far s n) (enumerate_from 0 (instructions_of n.below)) ≡ []
  pub ends : flat_map (targets_at_the_end s n.below) (instructions_of n.below) ≡ []
  pub clauses : flat_map (clause_backwards s n) (guarded n.below) ≡ []
  pub numbers : body_numbers_out_of_range_in s n ≡ []

-- the bytes of a field with data suffice
pub record FieldBreaksNothing (s : Source) (n : Node) : Type 0 where
  pub long : data_too_short_of s n ≡ []
  pub sized : data_unsized_of s n ≡ []

-- a production breaks none of the rules that are asked of any, nor of those of its kind
pub record BreaksNothing (s : Source) (n : Node) : Type 0 where
  pub types : type_undeclared s n ≡ []
  pub scopes : scope_undeclared s n ≡ []
  pub typars : typar_undeclared s n ≡ []
  pub param_types : param_type_undeclared s n ≡ []
  pub numbers : number_out_of_range_at s n ≡ []
  pub depth : type_too_deep s n ≡ []
  pub nesting : class_too_deep n ≡ []
  pub paths : path_too_long n ≡ []
  pub class : is_among (CLASS ∷ []) n.production ≡ true → object_undeclared_of s n ≡ []
  pub field : is_among (FIELD ∷ []) n.production ≡ true → FieldBreaksNothing s n
  pub label : is_among (AT_NAME ∷ []) n.production ≡ true → label_undeclared_of s n ≡ []
  pub accessors : is_among (PROPERTY ∷ EVENT ∷ []) n.production ≡ true → accessors_undeclared_of s n ≡ []
  pub method : is_among (METHOD ∷ []) n.production ≡ true → MethodBreaksNothing s n

abbrev pub EachBreaksNothing : Source → List Node → Type 0
EachBreaksNothing s [] = ⊤
EachBreaksNothing s (n ∷ ns) = BreaksNothing s n × EachBreaksNothing s ns

-- ---- the source

-- nothing is declared twice that may be declared once, and there is an assembly
pub record WholeBreaksNothing (s : Source) : Type 0 where
  pub types : types_twice s ≡ []
  pub members : members_twice s ≡ []
  pub externs : externs_twice s ≡ []
  pub entries : entries_twice s ≡ []
  pub manifests : manifests_twice s ≡ []
  pub contents : data_twice s ≡ []
  pub assembly : assembly_undeclared s ≡ []

abbrev pub NodesSuffice : Type 0
NodesSuffice = (s : Source) → EachBreaksNothing s (nodes s) → WholeBreaksNothing s → IsFaultless (broken s)

-- ---- productions of which no rule speaks

-- those of which one does
abbrev pub asked : List ℕ
asked =
    TYPE_NAME_SCOPE ∷ TARGET_SCOPE ∷ FIELD_TARGET_SCOPE ∷ TYPE_NAME_PATH ∷ TARGET_NAME ∷
    FIELD_TARGET_NAME ∷ TYPE_BASE_BANG ∷ TYPE_BASE_DOUBLE_BANG ∷ MEMBER_PARAM ∷ PARAM_OF_TYPE ∷
    KEY_VER ∷ DECL_SUBSYSTEM ∷ DECL_STACKRESERVE ∷ ASSEMBLY_ITEM_HASH ∷ DECL_IMAGEBASE ∷
    DECL_FILE ∷ DECL_CORFLAGS ∷ ASSEMBLY_ATTR_FLAGS ∷ CLASS_ATTR_FLAGS ∷ IMPL_ATTR_FLAGS ∷
    FIELD_ATTR_FLAGS ∷ METHOD_ATTR_FLAGS ∷ TYPAR_ATTR_FLAGS ∷ PROPERTY_ATTR_FLAGS ∷ FLAGS_OPT_SOME ∷
    CONST_INT_TYPE ∷ CONST_FLOAT32 ∷ CONST_FLOAT64 ∷ CONST_CHAR ∷ MEMBER_PACK ∷
    MEMBER_SIZE ∷ FIELD ∷ DATA_ITEM_DATA_NUM ∷ DATA ∷ PARAM_OF_BRACKET ∷
    CUSTOM ∷ OVERRIDDEN_METHOD ∷ PROPERTY_ITEM_GET ∷ PROPERTY_ITEM_SET ∷ PROPERTY_ITEM_OTHER ∷
    EVENT_ITEM_ADDON ∷ EVENT_ITEM_REMOVEON ∷ EVENT_ITEM_FIRE ∷ EVENT_ITEM_OTHER ∷ PROPERTY ∷
    TYPE_SUFFIX_BRACKET ∷ GEN_ARGS_BRACKET ∷ GEN_ARGS_TYPE ∷ SIGNATURE ∷ DEF_ARGS ∷
    PARAM_ATTR_FLAGS ∷ TYPARS ∷ TYPE ∷ CLASS ∷ AT_NAME ∷
    EVENT ∷ METHOD ∷ []

-- Any other production breaks none, and so does a forest in which there are others alone. A production, what stands below it and what
-- stands behind it break none together where each of them breaks none.
pub record UnaskedBreakNothing : Type 0 where
  pub node : (s : Source) (n : Node) → is_among asked n.production ≡ false → BreaksNothing s n
  pub forest : (s : Source) (a : Around) (g : Forest) → parts asked g ≡ [] → EachBreaksNothing s (nodes_in s a g)
  pub branch : (s : Source) (a : Around) (q : ℕ) (below after : Forest) → BreaksNothing s (record { production = q; below = below; around = entered s a q below }) →
      EachBreaksNothing s (nodes_in s (entered s a q below) below) → EachBreaksNothing s (nodes_in s a after) → EachBreaksNothing s (nodes_in s a (branch q below after))
