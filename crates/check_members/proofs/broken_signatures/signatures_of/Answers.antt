use Rattle.check_members.proofs.BrokenLemmas.{breaks_as_known}
use Rattle.check_members.proofs.broken_signatures.signatures_of.Goals as goal

pub returns : goal.returns
returns c s e o k n = breaks_as_known s c.args.externs.now.names c.args.own.now.names e.texts o.texts c.args.classes.now.paths k.knows n
