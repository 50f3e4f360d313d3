use Rattle.stack_states.proofs.Asks.{fits_rest}
use Rattle.stack_states.proofs.asking.fails_to_fit.Goals as goal

pub returns-clause-ok : goal.returns-clause-ok
returns-clause-ok c =
    fits_rest c.args.w.now c.is_unstored.new.w c.args.row.now c.args.stack.now c.in_ok-stored.stored c.in_ok-fails.fails c.in_ok-stored.ensures.stays c.requires.row c.requires.stack
    c.in_ok-stored.ensures.ok c.if-stored.false c.in_ok-fails.ensures.ok
