use Rattle.std.proofs.Common.{◌+◌, ◌%◌, [], ◌∷◌, ap, ◌∙◌, arith}
use Rattle.print_leaves.specs.Page.{added}
use Rattle.print_leaves.proofs.Numbered.{decimal_one, decimal_more}
use Rattle.print_leaves.proofs.paper.Paper.+add_decimal.Goals as goal

pub returns-then-number-lt10 : goal.returns-then-number-lt10
returns-then-number-lt10 t c = c.in_ok-add_ascii.ensures ∙ decimal_one c.args.self.now c.args.number c.if-number-lt10.true

pub returns : goal.returns
returns t c =
    c.in_ok-add_ascii-2.ensures
    ∙ (ap (λ q. added q ((48 + c.args.number % 10) ∷ [])) c.in_ok-add_decimal.ensures
    ∙ decimal_more c.args.self.now c.args.number c.if-number-lt10.false (omega arith))
