use Rattle.stack_effects.proofs.Calling.{call_made}
use Rattle.stack_effects.proofs.calls.call_parts.Goals as goal

pub returns-clause-ok : goal.returns-clause-ok
returns-clause-ok c =
    call_made c.args.w.now c.owner_key.new.w c.method_keys.new.w _ c.args.m.now c.in_ok-owner.ensures.stays c.in_ok-method_args.ensures.stays
    c.in_ok-owner.ensures.ok c.in_ok-class_args.ensures c.in_ok-method_args.ensures.ok
