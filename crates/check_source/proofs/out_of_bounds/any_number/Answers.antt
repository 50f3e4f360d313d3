use Rattle.std.proofs.Common.{ap, sym, ◌∙◌}
use Rattle.source_model.specs.BodyFaults.{body_numbers_out_of_range}
use Rattle.source_model.specs.OutOfRange.{numbers_out_of_range}
use Rattle.source_nodes.specs.Least.{least, sooner}
use Rattle.source_syntax.proofs.LeastLemmas.{least_append}
use Rattle.check_source.proofs.out_of_bounds.any_number.Goals as goal

pub returns : goal.returns
returns c s r =
    c.sooner.ensures
    ∙ ap (λ k. sooner k c.in_ok-inside.inside) (c.in_ok-outside.ensures s r)
    ∙ ap (sooner (least (numbers_out_of_range s))) (c.in_ok-inside.ensures s r)
    ∙ sym (least_append (numbers_out_of_range s) (body_numbers_out_of_range s))
