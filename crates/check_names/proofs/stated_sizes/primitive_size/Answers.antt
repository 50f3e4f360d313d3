use Rattle.std.proofs.Common.{sym, ◌∙◌}
use Rattle.check_names.proofs.StatedSizes.{base_size}
use Rattle.check_names.proofs.stated_sizes.primitive_size.Goals as goal

pub returns : goal.returns
returns c s a f args value e other = base_size s value a c.args.production f args other ∙ sym (c.base_width.ensures f e)
