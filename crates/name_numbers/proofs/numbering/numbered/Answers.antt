use Rattle.name_numbers.proofs.BothSorts.{all_numbered, none_below}
use Rattle.name_numbers.proofs.numbering.numbered.Goals as goal

pub returns : goal.returns
returns c =
    all_numbered c.args.texts.now c.args.nodes.now c.args.middle c.args.last c.requires c.in_ok-numbering.numbering c.settle.new.numbering c.settle-2.new.numbering
    (none_below c.in_ok-numbering.numbering.table.entries c.args.middle c.in_ok-numbering.ensures.empty) c.in_ok-settle.ensures c.in_ok-settle-2.ensures
