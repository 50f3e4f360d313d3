use Rattle.std.proofs.Common.{◌∙◌, ap, sym}
use Rattle.source_model.specs.Undeclared.{objects_undeclared, scopes_undeclared}
use Rattle.source_nodes.specs.Least.{least, sooner}
use Rattle.source_syntax.proofs.LeastLemmas.{least_append}
use Rattle.check_source.proofs.not_declared.object_alone.Goals as goal

pub returns : goal.returns
returns c s r k e =
    c.in_ok-object.ensures s r k
    ∙ ap (λ o. sooner o (least (objects_undeclared s))) e
    ∙ sym (least_append (scopes_undeclared s) (objects_undeclared s))
