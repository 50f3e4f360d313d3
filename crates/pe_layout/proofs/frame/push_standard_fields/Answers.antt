use Rattle.pe_layout.specs.Layout.{standard_fields}
use Rattle.pe_layout.proofs.frame.push_standard_fields.Goals as goal

pub returns : goal.returns
unfolding standard_fields
returns c = rw (← c.stub_rva.ensures) c.push_fields.ensures
