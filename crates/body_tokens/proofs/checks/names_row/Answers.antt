use Rattle.std.proofs.Common.{◌∙◌, sym}
use Rattle.std.proofs.lemmas.Bool.{false≢true}
use Rattle.body_tokens.proofs.Checking.{names_there, names_other}
use Rattle.body_tokens.proofs.checks.names_row.Goals as goal

pub returns-then-named-wanted : goal.returns-then-named-wanted
returns-then-named-wanted c =
    names_there c.args.image.now c.args.token c.args.table c.has_row.result (c.if-named-wanted.true ∙ c.from-wanted.ensures) c.has_row.ensures

pub returns : goal.returns
returns c = (
  λ t. absurd (false≢true t),
  λ n. absurd (names_other c.args.image.now c.args.token c.args.table (λ e. c.if-named-wanted.false (e ∙ sym c.from-wanted.ensures)) n),
)
