use Rattle.metadata_tables.proofs.OneFault.{one_fault}
use Rattle.metadata_tables.proofs.laws.one_fault.Goals as goal

pub returns : goal.returns
returns c = one_fault
