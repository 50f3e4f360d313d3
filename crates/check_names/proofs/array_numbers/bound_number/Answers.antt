use Rattle.std.proofs.Common.{ap, sym, ◌∙◌}
use Rattle.check_names.proofs.ArrayLemmas.{bounds_after, bounds_next}
use Rattle.check_visitor.proofs.AskingLemmas.{nothing_more}
use Rattle.check_names.proofs.array_numbers.bound_number.Goals as goal

pub loop-dimension-preserved : goal.loop-dimension-preserved
loop-dimension-preserved c s r =
    ap (λ o. bounds_after s o c.in-Some.rest.now) c.sooner-found.ensures
    ∙ bounds_next s c.loop-dimension.found c.dimension_number-here.result c.in-Some.dimension c.in-Some.rest.now (c.dimension_number-here.ensures s r)
    ∙ ap (bounds_after s c.loop-dimension.found) (sym c.in-Some.ensures) ∙ c.loop-dimension.invariant s r

pub returns : goal.returns
returns c s r =
    nothing_more c.loop-dimension.found ∙ ap (bounds_after s c.loop-dimension.found) (sym c.in_default.ensures) ∙ c.loop-dimension.invariant s r
