use Rattle.source_assembly.proofs.LawLemmas.{read_in_one_way}
use Rattle.source_assembly.proofs.laws.one_reading.Goals as goal

pub returns : goal.returns
returns c = read_in_one_way c.lexes_in_one_way.ensures c.one_meaning.ensures c.one_fault.ensures.none c.one_fault.ensures.one
