use Rattle.std.proofs.Common.{◌∙◌}
use Rattle.check_names.proofs.OrderedNumbers.{same_numbers}
use Rattle.check_names.proofs.out_of_range.number_out_of_range.Goals as goal

pub returns : goal.returns
returns c s r = c.in_ok-first.ensures s r ∙ same_numbers c.tokens_stand_in_order.ensures s c.args.reader.now r c.derivations_have_bodies.ensures
