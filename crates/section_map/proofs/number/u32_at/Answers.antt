use Rattle.std.proofs.lemmas.List.{take_rest}
use Rattle.pe_layout.specs.Fields.{u32_at}
use Rattle.section_map.proofs.number.u32_at.Goals as goal

pub returns : goal.returns
unfolding u32_at
returns c = rw take_rest at c.read_u32.ensures
