use Rattle.std.proofs.Common.{◌∙◌, ap, sym}
use Rattle.source_model.specs.Undeclared.{objects_undeclared, scopes_undeclared}
use Rattle.source_nodes.specs.Least.{least, sooner}
use Rattle.source_syntax.proofs.LeastLemmas.{least_append}
use Rattle.check_names.proofs.extern_rules.extern_undeclared.Goals as goal

pub returns : goal.returns
returns c s r e o k =
    c.sooner.ensures
    ∙ ap (λ x. sooner x c.in_ok-object.object) (c.in_ok-scope.ensures s r e o)
    ∙ ap (sooner (least (scopes_undeclared s))) (c.in_ok-object.ensures s r k)
    ∙ sym (least_append (scopes_undeclared s) (objects_undeclared s))
