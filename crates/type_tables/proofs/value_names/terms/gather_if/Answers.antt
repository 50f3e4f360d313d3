use Rattle.std.proofs.Common.{sym}
use Rattle.type_tables.proofs.Gathering.{none_in, one_in}
use Rattle.type_tables.proofs.value_names.terms.gather_if.Goals as goal

pub returns-then-value : goal.returns-then-value
returns-then-value c = rw (c.if-value.true, one_in) c.gather_name.ensures

pub returns-else-value : goal.returns-else-value
returns-else-value c = rw c.if-value.false (sym (none_in c.args.means.now c.args.into.now))
