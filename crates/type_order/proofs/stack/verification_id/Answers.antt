use Rattle.std.proofs.Common.{sym, ◌∙◌, ap}
use Rattle.type_hierarchy.specs.Tables.{hierarchy_in}
use Rattle.type_terms.specs.declared.term.SigType.TheVariants as type
use Rattle.sig_pool.specs.Terms.{term_of}
use Rattle.type_hierarchy.proofs.NodeLemmas.{verification_is}
use Rattle.type_order.proofs.stack.verification_id.Goals as goal

pub returns-in-Some-clause-ok : goal.returns-in-Some-clause-ok
returns-in-Some-clause-ok c =
    let e = verification_is (hierarchy_in c.args.tables.now) (term_of c.args.pool.now c.args.id) _ (sym c.counts_as.ensures ∙ c.in-Some.is) in
    rw (e ∙ ap type.Prim (sym c.verified.ensures)) c.intern.ensures.ok

pub returns-in-None-clause-ok : goal.returns-in-None-clause-ok
returns-in-None-clause-ok c =
    record { within = c.requires.id; term = sym (verification_is (hierarchy_in c.args.tables.now) (term_of c.args.pool.now c.args.id) _ (sym c.counts_as.ensures ∙ c.in-None.is)) }
