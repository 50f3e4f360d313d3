use Rattle.std.proofs.Common.{rules}
use Rattle.pe_layout.specs.Layout.{layout_of}
use Rattle.pe_layout.proofs.layout.Layout.of.Goals as goal

pub returns-clause-value : goal.returns-clause-value
unfolding layout_of
returns-clause-value c = search rules
