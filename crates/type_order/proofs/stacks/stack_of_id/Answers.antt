use Rattle.std.proofs.Common.{sym, ◌∙◌}
use Rattle.sig_pool.specs.Terms.{term_of}
use Rattle.type_hierarchy.specs.Tables.{hierarchy_in}
use Rattle.type_hierarchy.proofs.NodeLemmas.{stack_is}
use Rattle.type_order.proofs.stacks.stack_of_id.Goals as goal

pub returns-in-Some-clause-ok : goal.returns-in-Some-clause-ok
returns-in-Some-clause-ok c =
    rw (stack_is (hierarchy_in c.args.tables.now) (term_of c.args.pool.now c.args.id) _ (sym c.underlying.ensures ∙ c.in-Some.is)) c.primitive_stack.ensures.ok

pub returns-in-None-clause-ok : goal.returns-in-None-clause-ok
returns-in-None-clause-ok c =
    rw (stack_is (hierarchy_in c.args.tables.now) (term_of c.args.pool.now c.args.id) _ (sym c.underlying.ensures ∙ c.in-None.is)) c.plain_stack.ensures.ok
