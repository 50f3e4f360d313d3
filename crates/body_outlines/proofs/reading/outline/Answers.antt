use Rattle.body_outlines.proofs.Answered.{only_outline, only_fault}
use Rattle.body_outlines.proofs.reading.outline.Goals as goal

pub returns-clause-only_outline : goal.returns-clause-only_outline
returns-clause-only_outline c = only_outline c.args.bytes.now c.read.result c.read.ensures.outline c.read.ensures.fault

pub returns-clause-only_fault : goal.returns-clause-only_fault
returns-clause-only_fault c = only_fault c.args.bytes.now c.read.result c.read.ensures.outline c.read.ensures.fault
