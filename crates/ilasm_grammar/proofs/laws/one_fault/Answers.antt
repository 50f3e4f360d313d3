use Rattle.ilasm_grammar.specs.declared.nonterminals.TheConstants.{SOURCE}
use Rattle.ilasm_grammar.specs.Ilasm.{ilasm}
use Rattle.ilasm_grammar.proofs.CourseLemmas.{no_sentence, one_fault}
use Rattle.ilasm_grammar.proofs.laws.one_fault.Goals as goal

pub returns-clause-none : goal.returns-clause-none
returns-clause-none c = no_sentence ilasm SOURCE

pub returns-clause-one : goal.returns-clause-one
returns-clause-one c = one_fault ilasm SOURCE
