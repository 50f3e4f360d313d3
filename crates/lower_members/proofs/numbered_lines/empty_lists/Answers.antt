use Rattle.std.proofs.Common.{◌∙◌, arith}
use Rattle.lower_members.proofs.NumberedLemmas.{none_next}
use Rattle.lower_members.proofs.numbered_lines.empty_lists.Goals as goal

pub loop-left-preserved : goal.loop-left-preserved
loop-left-preserved c =
    none_next c.loop-left.lists.items c.push-in-loop-left.new.self.items c.new-in-loop-left.result c.loop-left.left c.in_ok-push-2.ensures.items c.new-in-loop-left.ensures
    (omega (arith, c.loop-left-test.true))
    ∙ c.loop-left.invariant
