use Rattle.name_numbers.proofs.BothSorts.{roots_state}
use Rattle.name_numbers.proofs.numbering.begun.Goals as goal

pub returns-clause-state : goal.returns-clause-state
returns-clause-state c =
    roots_state c.args.texts.now c.args.nodes.now c.args.last (record { table = c.new.result; named = c.in_ok-named.named })
    (c.new.ensures.finds c.args.texts.now) c.new.ensures.empty c.in_ok-named.ensures
