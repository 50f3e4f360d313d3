use Rattle.std.proofs.Common.{◌+◌, ◌%◌, [], ◌∷◌, ap, ◌∙◌, arith}
use Rattle.print_leaves.specs.Page.{added}
use Rattle.print_leaves.proofs.Numbered.{decimal_more}
use Rattle.print_leaves.proofs.paper.Paper.+add_wide.Goals as goal

pub returns : goal.returns
returns t c =
    c.in_ok-add_ascii.ensures
    ∙ (ap (λ q. added q ((48 + c.args.number % 10) ∷ [])) c.in_ok-add_wide.ensures
    ∙ decimal_more c.args.self.now c.args.number (omega arith) (omega arith))
