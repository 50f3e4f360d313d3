use Rattle.std.proofs.Common.{refl, not}
use Rattle.body_demands.proofs.Meeting.{headers_tell}
use Rattle.body_demands.proofs.headers.has_header.Goals as goal

pub returns : goal.returns
returns c =
    headers_tell c.args.image.now c.args.states.now c.args.row _ c.fails_header.result (not c.fails_header.result) c.requires.asked c.requires.there c.fails_header.ensures refl
