use Rattle.std.proofs.Common.{◌∙◌, arith}
use Rattle.lower_members.proofs.GivenLemmas.{none_next}
use Rattle.lower_members.proofs.line_attributes.empty_lists.Goals as goal

pub loop-left-preserved : goal.loop-left-preserved
loop-left-preserved c =
    none_next c.loop-left.lists.items c.push.new.self.items c.new.result c.loop-left.left c.in_ok-push.ensures.items c.new.ensures (omega (arith, c.loop-left-test.true))
    ∙ c.loop-left.invariant
