use Rattle.std.proofs.Common.{sym}
use Rattle.body_weights.proofs.Naming.{text_lacks}
use Rattle.body_weights.proofs.tokens.text_weight.Goals as goal

pub returns-in-None : goal.returns-in-None
returns-in-None c = sym (text_lacks c.args.image.now c.args.token c.blob_is_computed.ensures (rw c.user.ensures at c.in-None.ensures.none))
