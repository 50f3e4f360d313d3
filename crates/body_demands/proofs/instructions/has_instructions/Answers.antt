use Rattle.std.proofs.Common.{refl, not}
use Rattle.body_demands.proofs.Meeting.{instructions_tell}
use Rattle.body_demands.proofs.instructions.has_instructions.Goals as goal

pub returns : goal.returns
returns c =
    instructions_tell c.args.image.now c.args.states.now c.args.row _ c.fails_instructions.result (not c.fails_instructions.result) c.requires.asked c.requires.there c.fails_instructions.ensures refl
