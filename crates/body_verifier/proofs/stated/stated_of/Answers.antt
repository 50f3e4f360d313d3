use Rattle.std.proofs.Common.{◌∙◌, ap, sym}
use Rattle.type_hierarchy.specs.Tables.{hierarchy_in}
use Rattle.stack_states.specs.declared.state.State.TheVariants.{Stack}
use Rattle.body_verifier.proofs.StatedLemmas.{stays_stack, stated_are}
use Rattle.body_verifier.proofs.stated.stated_of.Goals as goal

pub returns-clause-ok : goal.returns-clause-ok
returns-clause-ok c = λ f types clauses.
    stated_are c.all_caught.new.w.nodes _ f c.args.clauses.now (ap Stack c.new.ensures)
    (stays_stack _ _ _ _ c.in_ok-caught.ensures.stays.nodes c.in_ok-object.ensures.ok)
    (c.in_ok-caught.ensures.ok f (types ∙ sym (ap hierarchy_in c.in_ok-object.ensures.stays.tables)))
    clauses
