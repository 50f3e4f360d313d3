use Rattle.std.proofs.Common.{ap, sym, ◌∙◌, length, ◌-◌}
use Rattle.std.specs.Prelude.{slice_get}
use Rattle.lower_members.specs.ItemSteps.{node_step}
use Rattle.lower_members.proofs.ItemWalks.{innermost_is, step_none, step_open}
use Rattle.lower_members.proofs.item_walks.next_step.Goals as goal

pub returns-else-last-at : goal.returns-else-last-at
returns-else-last-at c stack e =
    c.node_step.ensures ∙ ap node_step c.node_at.ensures
    ∙ step_open c.args.nodes.now c.args.at stack c.in-Some.last
    (sym (innermost_is stack) ∙ ap (λ xs. slice_get xs (length xs - 1)) (sym e) ∙ sym c.innermost.ensures ∙ c.in-Some.is) c.if-last-at.false

pub returns-in-None : goal.returns-in-None
returns-in-None c stack e =
    c.node_step-in-None.ensures ∙ ap node_step c.node_at-in-None.ensures
    ∙ step_none c.args.nodes.now c.args.at stack (sym (innermost_is stack) ∙ ap (λ xs. slice_get xs (length xs - 1)) (sym e) ∙ sym c.innermost.ensures ∙ c.in-None.is)
