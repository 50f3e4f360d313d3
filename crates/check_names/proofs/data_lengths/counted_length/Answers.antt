use Rattle.source_model.specs.Forest.{part}
use Rattle.check_names.proofs.data_lengths.counted_length.Goals as goal

pub returns : goal.returns
returns c s f r e fits = c.or_none.ensures s (part c.args.production f) (c.in_ok-length.ensures s f r e fits)
