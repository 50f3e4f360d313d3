use Rattle.std.proofs.Common.{ap, sym, ◌∙◌, arith}
use Rattle.std.specs.Prelude.{is_some}
use Rattle.il_lexer.specs.WordList.{word_number}
use Rattle.print_leaves.proofs.HighBytes.{ending_low}
use Rattle.print_leaves.proofs.paper.Paper.add_ending.Goals as goal

pub take_back-requires-clause-ascii : goal.take_back-requires-clause-ascii
take_back-requires-clause-ascii c =
    ending_low c.add_part.new.self.text c.args.start c.len-place.result (omega arith)
    (ap (λ b. is_some (word_number b)) (sym c.bytes_from.ensures)
    ∙ (ap is_some (sym c.word_number.ensures) ∙ (sym c.is_some.ensures ∙ c.if-is_some.true)))
