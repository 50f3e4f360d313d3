use Rattle.std.proofs.Common.{sym, ◌∙◌}
use Rattle.source_syntax.proofs.VariableLemmas.{found_number, no_number}
use Rattle.source_syntax.proofs.bases.number_of.Goals as goal

pub returns-in-Some : goal.returns-in-Some
returns-in-Some c few = found_number c.args.names.now c.args.text.now c.in-Some.k c.word_of.result (sym c.find.ensures ∙ c.in-Some.is) c.word_of.ensures few

pub returns-in-None : goal.returns-in-None
returns-in-None c few =
    no_number c.args.names.now c.args.text.now c.len.result c.word_of-in-None.result (sym c.find.ensures ∙ c.in-None.is) c.len.ensures c.word_of-in-None.ensures few
