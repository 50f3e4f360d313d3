use Rattle.std.proofs.Common.{arith}
use Rattle.std.proofs.lemmas.Grind.{common_steps}
use Rattle.pe_layout.specs.Layout.{padded}
use Rattle.pe_layout.proofs.contents.push_padded.Goals as goal

pub returns : goal.returns
unfolding padded
returns c = grind (arith, common_steps)
