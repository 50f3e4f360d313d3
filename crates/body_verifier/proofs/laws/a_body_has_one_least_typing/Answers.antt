use Rattle.body_verifier.proofs.Orders.{one_least}
use Rattle.body_verifier.proofs.laws.a_body_has_one_least_typing.Goals as goal

pub returns : goal.returns
returns c = λ f height g. one_least f (c.joins_are_least_upper_bounds.ensures.order f.types height g)
