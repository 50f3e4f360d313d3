use Rattle.std.proofs.Common.{ℕ, List, ap}
use Rattle.stack_states.proofs.LinkLemmas.{linked, linked_none, numbers_are}
use Rattle.stack_states.proofs.worklist.Worklist.new.Goals as goal

pub invariant_of-result : goal.invariant_of-result
invariant_of-result c =
    linked _ _ _ _ (linked_none c.in_ok-before.before.items c.in_ok-after.after.items c.args.n c.in_ok-before.ensures.0 c.in_ok-after.ensures.0 c.in_ok-before.ensures.1 c.in_ok-after.ensures.1)

pub returns : goal.returns
returns c =
    ap (λ (l : List ℕ). record { count = c.args.n; numbers = l })
    (numbers_are _ _ _ _
    (linked_none c.in_ok-before.before.items c.in_ok-after.after.items c.args.n c.in_ok-before.ensures.0 c.in_ok-after.ensures.0 c.in_ok-before.ensures.1 c.in_ok-after.ensures.1))
