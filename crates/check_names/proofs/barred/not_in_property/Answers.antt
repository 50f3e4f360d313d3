use Rattle.std.proofs.Common.{◌∙◌, ap, sym}
use Rattle.source_model.specs.Signatures.{conventions, ellipses}
use Rattle.source_nodes.specs.Least.{least, sooner}
use Rattle.source_syntax.proofs.LeastLemmas.{least_append}
use Rattle.check_names.proofs.barred.not_in_property.Goals as goal

pub returns : goal.returns
returns c f e =
    c.sooner.ensures ∙ ap (λ o. sooner o c.convention.result) (c.ellipsis.ensures f e)
    ∙ ap (sooner (least (ellipses f))) (c.convention.ensures f e) ∙ sym (least_append (ellipses f) (conventions f))
