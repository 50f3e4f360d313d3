use Rattle.std.proofs.Common.{refl}
use Rattle.type_order.proofs.StandingLemmas.{top_standing}
use Rattle.type_order.proofs.standing.at_top.Goals as goal

pub returns : goal.returns
returns c = λ w ns h e. top_standing w ns c.args.id _ refl h e
