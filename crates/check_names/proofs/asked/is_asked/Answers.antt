use Rattle.check_names.proofs.AskedTable.{bytes_are, none_past}
use Rattle.check_names.proofs.asked.is_asked.Goals as goal

pub returns-then-production-ge704 : goal.returns-then-production-ge704
returns-then-production-ge704 c = none_past c.args.production c.if-production-ge704.true

pub returns : goal.returns
returns c = bytes_are c.args.production c.if-production-ge704.false
