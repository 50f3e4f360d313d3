use Rattle.std.proofs.Common.{◌≡◌, ◌∙◌, subst, sym}
use Rattle.std.specs.Prelude.{IfOk}
use Rattle.source_nodes.specs.Least.{least}
use Rattle.check_names.specs.NamedTypes.{path_missing}
use Rattle.check_names.proofs.NamedTypeLemmas.{here_is}
use Rattle.check_names.proofs.named_types.missing.Goals as goal

pub returns-in-Here : goal.returns-in-Here
returns-in-Here c s scope r all is =
    subst (λ x. IfOk c.unless_declared.result (λ k. k ≡ least (path_missing c.args.classes.now s c.args.path.now x))) (sym (here_is scope (sym c.in-Here.is ∙ is)))
    (c.unless_declared.ensures s r all)
