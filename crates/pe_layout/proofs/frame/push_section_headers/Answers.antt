use Rattle.pe_layout.specs.Layout.{section_headers}
use Rattle.pe_layout.proofs.frame.push_section_headers.Goals as goal

pub returns : goal.returns
unfolding section_headers
returns c = c.push_fields.ensures
