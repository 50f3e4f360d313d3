use Rattle.std.proofs.Common.{arith}
use Rattle.image_model.specs.Faults.{distinct}
use Rattle.image_demands.proofs.Steps.{values_next}
use Rattle.image_demands.proofs.values.bad_value.Goals as goal

pub new-values-requires-clause-can : goal.new-values-requires-clause-can
new-values-requires-clause-can g c = c.requires.told.can

pub new-values-requires-clause-distinct : goal.new-values-requires-clause-distinct
new-values-requires-clause-distinct g c = λ table row names are. c.requires.below.held names are distinct (omega arith) table row

pub returns : goal.returns
returns g c =
    values_next c.args.image.now c.requires.told.can.tables c.tokens_name_one_thing.ensures c.new-values.result c.new-values.ensures c.first_bad.result c.found_at.result c.requires.below
    c.first_bad.ensures.bad c.first_bad.ensures.none c.found_at.ensures
