use Rattle.stack_rows.proofs.Growing.{stays_on}
use Rattle.stack_states.proofs.Pushing.{pushed_one}
use Rattle.stack_states.proofs.effect.push_all.Goals as goal

pub loop-value-preserved : goal.loop-value-preserved
loop-value-preserved c = record {
  stays = stays_on c.args.w.now c.loop-value.w c.given.new.w c.loop-value.invariant.stays c.in_ok-value.ensures.stays;
  means = pushed_one c.args.w.now c.loop-value.w c.given.new.w c.args.stack.now c.loop-value.stack c.push.new.self c.args.pushed.now c.loop-value.value-index c.value-item.result
      c.args.first.now c.args.second.now c.in_ok-value.value c.loop-value.invariant.stays c.in_ok-value.ensures.stays c.requires.first c.requires.second c.requires.pushed
      c.loop-value-test.true c.value-item.is c.loop-value.invariant.means c.in_ok-value.ensures.ok c.in_ok-push.ensures.ok;
}
