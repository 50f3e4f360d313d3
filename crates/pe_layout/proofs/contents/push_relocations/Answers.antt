use Rattle.pe_layout.specs.Layout.{relocations}
use Rattle.pe_layout.proofs.contents.push_relocations.Goals as goal

pub returns : goal.returns
unfolding relocations
returns c = rw (← c.stub_rva-place.ensures) c.push_fields.ensures
