use Rattle.image_reader.proofs.Outcomes.{is_read, is_fault, is_formed, only_read, only_fault}
use Rattle.image_reader.proofs.reading.read.Goals as goal

pub returns-clause-reads : goal.returns-clause-reads
returns-clause-reads c = is_read c.args.file.now c.answer.result c.answer.ensures

pub returns-clause-formed : goal.returns-clause-formed
returns-clause-formed c = is_formed c.args.file.now c.bytes_in_range.ensures c.requires c.what_is_read_is_formed.ensures c.answer.result c.answer.ensures

pub returns-clause-fault : goal.returns-clause-fault
returns-clause-fault c = is_fault c.args.file.now c.answer.result c.answer.ensures

pub returns-clause-only_read : goal.returns-clause-only_read
returns-clause-only_read c = only_read c.args.file.now (c.an_image_has_one_outcome.ensures c.args.file.now c.requires) c.answer.result c.answer.ensures

pub returns-clause-only_fault : goal.returns-clause-only_fault
returns-clause-only_fault c = only_fault c.args.file.now (c.an_image_has_one_outcome.ensures c.args.file.now c.requires) c.answer.result c.answer.ensures
