use Rattle.stack_effects.proofs.Calling.{keys_more}
use Rattle.stack_rows.proofs.Growing.{stays_on}
use Rattle.stack_effects.proofs.calls.type_keys.Goals as goal

pub loop-t-preserved : goal.loop-t-preserved
loop-t-preserved c = record {
  stays = stays_on c.args.w.now c.loop-t.w c.type_key.new.w c.loop-t.invariant.stays c.in_ok-key.ensures.stays;
  has = keys_more c.args.w.now c.loop-t.w c.type_key.new.w c.loop-t.keys c.push.new.self c.args.types.now c.loop-t.t-index c.in_ok-key.key c.t-item.result
      c.loop-t.invariant.stays c.in_ok-key.ensures.stays c.loop-t-test.true c.t-item.is c.loop-t.invariant.has c.in_ok-key.ensures.ok c.in_ok-push.ensures.ok;
}
