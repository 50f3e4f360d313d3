use Rattle.ilasm_grammar.proofs.LawLemmas.{opened}
use Rattle.ilasm_grammar.proofs.laws.branch_opens.Goals as goal

pub returns : goal.returns
returns c g at n production count symbols kinds nodes d = opened g d
