use Rattle.std.proofs.Common.{◌/◌, ◌%◌, ◌^◌, refl}
use Rattle.method_states.proofs.Marking.{one_token}
use Rattle.method_states.proofs.tokens.mark_token.Goals as goal

pub returns : goal.returns
returns c =
    one_token c.args.marks.now c.mark.new.self c.args.token (c.args.token / 2 ^ 24) (c.args.token % 2 ^ 24) refl refl
    (record { room = c.mark.ensures.room; marked = c.mark.ensures.marked })
