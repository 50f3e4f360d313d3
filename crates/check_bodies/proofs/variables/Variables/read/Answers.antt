use Rattle.std.proofs.Common.{◌∷◌, [], sym, subst}
use Rattle.ilasm_grammar.specs.declared.productions.TheConstants.{DEF_ARGS_OPT_SOME}
use Rattle.source_model.specs.Forest.{child}
use Rattle.source_model.specs.Parameters.{parameters}
use Rattle.source_syntax.proofs.NameTokens.{child_bodies}
use Rattle.check_bodies.specs.NamedVariables.{AreNumbered}
use Rattle.check_bodies.proofs.VariableParts.{locals_named, parameters_named}
use Rattle.check_bodies.proofs.variables.Variables.read.Goals as goal

pub returns : goal.returns
returns c s n r m e =
    let f = n.below in
    let list = child (DEF_ARGS_OPT_SOME ∷ []) f in
    let arguments =
    c.in_ok-arguments.ensures s list r (parameters_named s list (child_bodies s (DEF_ARGS_OPT_SOME ∷ []) f m.bodies)) (sym (c.child-parameters.ensures f e)) in
    record {
      arguments-are = subst (λ k. AreNumbered c.in_ok-arguments.arguments s k (parameters f)) (c.first_argument-first.ensures f e) arguments;
      locals-are = c.in_ok-locals.ensures s f r (locals_named s f m.bodies) e;
    }
