-- answers for src/laws.rt
use Rattle.laws_image_parts.proofs.MemberRuns.{runs_read}
use Rattle.laws_image_parts.proofs.laws.runs_are_read.Goals as goal

pub returns : goal.returns
returns c = λ a classes r code image h. runs_read c.indexes_fit.ensures a classes r code image h
