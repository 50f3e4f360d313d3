use Rattle.std.proofs.Common.{ap, sym, subst, ◌∙◌}
use Rattle.std.specs.List.Sorted.{IsNonDecreasing}
use Rattle.source_syntax.specs.Labels.{count_below}
use Rattle.source_syntax.proofs.OrderLemmas.{number_is}
use Rattle.check_bodies.proofs.code_places.CodePlaces.number_at.Goals as goal

pub returns : goal.returns
returns c s f places =
    c.count_below.ensures (subst IsNonDecreasing (sym c.as_slice.ensures) places.in-order)
    ∙ ap (count_below c.args.token) (c.as_slice.ensures ∙ places.starts-are) ∙ sym (number_is f c.args.token)
