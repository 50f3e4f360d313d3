use Rattle.stack_effects.proofs.Calling.{parameter_more}
use Rattle.stack_rows.proofs.Growing.{below_kept, stays_on}
use Rattle.stack_effects.proofs.calls.with_parameters.Goals as goal

pub key_of-requires-clause-class_args : goal.key_of-requires-clause-class_args
key_of-requires-clause-class_args c = below_kept c.args.w.now.nodes c.loop-t.w.nodes c.args.parts.now.class_args c.loop-t.invariant.stays.nodes c.requires.class_args

pub key_of-requires-clause-method_args : goal.key_of-requires-clause-method_args
key_of-requires-clause-method_args c = below_kept c.args.w.now.nodes c.loop-t.w.nodes c.args.parts.now.method_args c.loop-t.invariant.stays.nodes c.requires.method_args

pub loop-t-preserved : goal.loop-t-preserved
loop-t-preserved c = record {
  stays = stays_on c.args.w.now c.loop-t.w c.st_of.new.w c.loop-t.invariant.stays (stays_on c.loop-t.w c.key_of.new.w c.st_of.new.w c.in_ok-key.ensures.stays c.in_ok-value.ensures.stays);
  asked = λ m os call zip. parameter_more c.args.w.now c.loop-t.w c.key_of.new.w c.st_of.new.w c.args.parts.now c.loop-t.operands c.push.new.self c.args.params.now c.loop-t.t-index
      c.in_ok-key.key c.t-item.result c.in_ok-value.value m os c.loop-t.invariant.stays c.in_ok-key.ensures.stays c.in_ok-value.ensures.stays c.loop-t-test.true c.t-item.is
      call (c.loop-t.invariant.asked m os call zip) c.in_ok-key.ensures.ok c.in_ok-value.ensures.ok c.in_ok-push.ensures.ok;
}
