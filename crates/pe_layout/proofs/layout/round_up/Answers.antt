use Rattle.std.proofs.Common.{arith}
use Rattle.pe_layout.specs.Fields.{round_up}
use Rattle.pe_layout.proofs.layout.round_up.Goals as goal

pub returns-clause-value : goal.returns-clause-value
unfolding round_up
returns-clause-value c = omega arith
