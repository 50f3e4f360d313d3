use Rattle.pe_layout.specs.Layout.{dos_header}
use Rattle.pe_layout.proofs.frame.push_dos_header.Goals as goal

pub returns : goal.returns
unfolding dos_header
returns c = c.push_fields.ensures
