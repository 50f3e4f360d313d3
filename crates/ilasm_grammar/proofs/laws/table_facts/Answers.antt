use Rattle.ilasm_grammar.proofs.IlasmFacts.{ilasm_decided_by_one, ilasm_sentence, ilasm_reached}
use Rattle.ilasm_grammar.proofs.laws.table_facts.Goals as goal

pub returns-clause-decided : goal.returns-clause-decided
returns-clause-decided c = ilasm_decided_by_one

pub returns-clause-derives : goal.returns-clause-derives
returns-clause-derives c = ilasm_sentence

pub returns-clause-reached : goal.returns-clause-reached
returns-clause-reached c = ilasm_reached
