use Rattle.ilasm_grammar.proofs.IlasmFacts.{ilasm_one_tree, ilasm_nodes}
use Rattle.ilasm_grammar.proofs.laws.one_derivation.Goals as goal

pub returns-clause-one : goal.returns-clause-one
returns-clause-one c = ilasm_one_tree

pub returns-clause-few : goal.returns-clause-few
returns-clause-few c = ilasm_nodes
