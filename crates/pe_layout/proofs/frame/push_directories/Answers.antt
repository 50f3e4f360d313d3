use Rattle.pe_layout.specs.Layout.{directories}
use Rattle.pe_layout.proofs.frame.push_directories.Goals as goal

pub returns : goal.returns
unfolding directories
returns c = c.push_fields.ensures
