use Rattle.pe_layout.specs.Layout.{file_header}
use Rattle.pe_layout.proofs.frame.push_file_header.Goals as goal

pub returns : goal.returns
unfolding file_header
returns c = rw (← c.characteristics_for.ensures) c.push_fields.ensures
