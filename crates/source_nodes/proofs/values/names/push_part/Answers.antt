use Rattle.std.proofs.Common.{sym, ◌∙◌}
use Rattle.source_nodes.proofs.NameLemmas.{id_pushes, quote_pushes}
use Rattle.source_nodes.proofs.values.names.push_part.Goals as goal

pub returns-then-first_is-clause-pushed : goal.returns-then-first_is-clause-pushed
returns-then-first_is-clause-pushed c =
    quote_pushes c.args.rest.now c.push_quoted.new.bytes c.args.text.now c.in_ok-more.more.now (sym c.first_is.ensures ∙ c.if-first_is.true)
    (λ inner after t e. c.in_ok-more.ensures.pushed inner after t (c.behind.ensures ∙ e))

pub returns-clause-pushed : goal.returns-clause-pushed
returns-clause-pushed c =
    id_pushes c.args.rest.now c.push_identifier.new.text c.args.text.now c.in_ok-more-2.more.now (sym c.first_is.ensures ∙ c.if-first_is.false)
    c.in_ok-more-2.ensures
