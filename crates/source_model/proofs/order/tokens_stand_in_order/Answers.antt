use Rattle.source_model.proofs.TokenOrder.{tokens_stand_in_order}
use Rattle.source_model.proofs.order.tokens_stand_in_order.Goals as goal

pub returns : goal.returns
returns c = tokens_stand_in_order
