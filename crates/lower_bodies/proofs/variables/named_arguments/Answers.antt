use Rattle.std.proofs.Common.{[], ◌∷◌, sym, subst, ◌∙◌}
use Rattle.std.specs.Prelude.{IfOk}
use Rattle.ilasm_grammar.specs.declared.productions.TheConstants.{DEF_ARG, DEF_ARGS_OPT_SOME}
use Rattle.source_model.specs.Forest.{child, parts}
use Rattle.source_model.specs.Parameters.{parameters}
use Rattle.source_model.specs.Variables.{first_argument}
use Rattle.source_nodes.specs.Pieces.{ArePieces}
use Rattle.source_syntax.proofs.NameTokens.{child_bodies}
use Rattle.lower_bodies.specs.NamedVariables.{AreNumbered}
use Rattle.lower_bodies.proofs.Nameless.{nameless_numbers, nameless_parameters, nameless_texts}
use Rattle.lower_bodies.proofs.VariableParts.{parameters_named}
use Rattle.lower_bodies.proofs.variables.named_arguments.Goals as goal

pub named_parts-requires : goal.named_parts-requires
named_parts-requires c =
    let list = child (DEF_ARGS_OPT_SOME ∷ []) c.requires.0 in (
      parts (DEF_ARG ∷ []) list,
      subst (λ xs. ArePieces c.child-below.result.now xs (parts (DEF_ARG ∷ []) list)) (sym c.as_slice.ensures)
          (c.in_ok-found.ensures list (sym (c.child-below.ensures c.requires.0 c.requires.1))),
    )

pub returns-then-not-has : goal.returns-then-not-has
returns-then-not-has c s n r m e =
    let f = n.below in
    let none = nameless_parameters f (sym (c.has.ensures (child (DEF_ARGS_OPT_SOME ∷ []) f) (sym (c.child-below.ensures f e))) ∙ c.if-not-has.true) in
    c.no_names.ensures s (first_argument f) (parameters f) (nameless_texts (parameters f) none) (nameless_numbers (first_argument f) 0 (parameters f) none)

pub returns : goal.returns
returns c s n r m e =
    let f = n.below in
    let list = child (DEF_ARGS_OPT_SOME ∷ []) f in
    let found : ArePieces c.child-below.result.now c.as_slice.result.now (parts (DEF_ARG ∷ []) list) =
    subst (λ xs. ArePieces c.child-below.result.now xs (parts (DEF_ARG ∷ []) list)) (sym c.as_slice.ensures)
    (c.in_ok-found.ensures list (sym (c.child-below.ensures f e))) in
    subst (λ k. IfOk c.named_parts.result (λ x. AreNumbered x s k (parameters f))) (c.first_argument.ensures f e)
    (c.named_parts.ensures s (parts (DEF_ARG ∷ []) list) r (parameters_named s list (child_bodies s (DEF_ARGS_OPT_SOME ∷ []) f m.bodies)) found)
