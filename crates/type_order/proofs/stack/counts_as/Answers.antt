use Rattle.std.proofs.Common.{sym, ◌∙◌, ap}
use Rattle.sig_pool.specs.Terms.{term_of}
use Rattle.type_hierarchy.specs.Stack.{counts_as, or_else, primitive}
use Rattle.type_order.proofs.stack.counts_as.Goals as goal

pub returns-in-Some : goal.returns-in-Some
unfolding counts_as
returns-in-Some c =
    sym (ap (λ o. or_else o (primitive (term_of c.args.pool.now c.args.id))) (sym c.underlying.ensures ∙ c.in-Some.is))

pub returns-in-None : goal.returns-in-None
unfolding counts_as
returns-in-None c =
    c.primitive.ensures ∙ sym (ap (λ o. or_else o (primitive (term_of c.args.pool.now c.args.id))) (sym c.underlying.ensures ∙ c.in-None.is))
