-- Whether the signature of a member or a reference breaks a rule of its own: by its calling convention, its types, its
-- arguments or its generic number (ECMA-335 II.23.2).
use Rattle.std.specs.Prelude.{ℕ, ◌&&◌, Bool, List, [], ◌∷◌, ◌++◌, map}
use Rattle.ilasm_grammar.specs.declared.productions.TheConstants.{TYPE, CALL_CONV, EXPLICIT_OPT_SOME, CALL_KIND_VARARG, SIGNATURE, SIG_ARG_ELLIPSIS, DEF_ARGS_OPT_SOME, METHOD_GENERICS, GEN_ARGS_TYPE}
use Rattle.source_model.specs.Forest.{Forest, none, branch, each, the, child, chosen, leaf_at, first_token}
use Rattle.source_model.specs.Members.{in_method}
use Rattle.source_model.specs.Nodes.{Around, nodes_in, typars}
use Rattle.source_model.specs.Source.{Source}
use Rattle.source_model.specs.TypeRules.{are_unbroken, past_count, is_nothing}

-- ---- what a property's signature can't have (ECMA-335 II.23.2.5)

abbrev pub ellipses : Forest → List ℕ
ellipses f = map first_token (each SIG_ARG_ELLIPSIS (child (SIGNATURE ∷ []) f))

abbrev pub conventions : Forest → List ℕ
conventions f =
    map first_token (each EXPLICIT_OPT_SOME (child (CALL_CONV ∷ []) f) ++ each CALL_KIND_VARARG (child (CALL_CONV ∷ []) f))

-- the `...`, `explicit` and `vararg` of a property
abbrev pub not_in_property : Forest → List ℕ
not_in_property f = ellipses f ++ conventions f

-- ---- generic arguments where none can stand

-- the `<` of a reference's generic arguments
abbrev pub generic_arguments_token : Forest → List ℕ
generic_arguments_token f =
    map (λ g. leaf_at 0 (the METHOD_GENERICS f)) (each GEN_ARGS_TYPE (the METHOD_GENERICS f))

-- ---- unbroken signatures, from what stands below their productions

abbrev pub is_field_unbroken : Source → Around → Forest → Bool
is_field_unbroken s a f = are_unbroken s (nodes_in s a (chosen (TYPE ∷ []) f))

abbrev pub is_method_unbroken : Source → Around → Forest → Bool
is_method_unbroken s a f =
    are_unbroken s (nodes_in s (in_method a f) (chosen (TYPE ∷ DEF_ARGS_OPT_SOME ∷ []) f)) && is_nothing (past_count (typars f))

abbrev pub is_property_unbroken : Source → Around → Forest → Bool
is_property_unbroken s a f =
    are_unbroken s (nodes_in s a (chosen (TYPE ∷ SIGNATURE ∷ []) f)) && is_nothing (not_in_property f)

-- a reference, but for its owner, where generic arguments can't stand
abbrev pub is_reference_unbroken : Source → Around → Forest → Bool
is_reference_unbroken s a f =
    are_unbroken s (nodes_in s a (chosen (TYPE ∷ []) f))
    && are_unbroken s (nodes_in s a (branch METHOD_GENERICS (the METHOD_GENERICS f) none))
    && are_unbroken s (nodes_in s a (branch SIGNATURE (the SIGNATURE f) none))
    && is_nothing (generic_arguments_token f)
