use Rattle.std.proofs.Common.{arith}
use Rattle.std.proofs.lemmas.Grind.{common_steps}
use Rattle.pe_layout.specs.Layout.{headers}
use Rattle.pe_layout.proofs.frame.push_headers.Goals as goal

pub returns-clause-value : goal.returns-clause-value
unfolding headers
returns-clause-value c = grind (arith, common_steps)
