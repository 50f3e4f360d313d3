use Rattle.std.proofs.lemmas.List.{take_rest}
use Rattle.pe_layout.specs.Fields.{u16_at}
use Rattle.section_map.proofs.number.u16_at.Goals as goal

pub returns : goal.returns
unfolding u16_at
returns c = rw take_rest at c.read_u16.ensures
