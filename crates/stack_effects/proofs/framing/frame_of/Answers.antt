use Rattle.std.proofs.Common.{refl}
use Rattle.stack_effects.proofs.FrameLemmas.{frame_made, frame_within}
use Rattle.stack_effects.proofs.framing.frame_of.Goals as goal

pub returns-clause-ok : goal.returns-clause-ok
returns-clause-ok c = λ image d path parameters method.
    frame_made c.args.w.now c.argument_keys.new.w c.type_keys.new.w c.type_key.new.w _ image d c.args.method.now c.args.body.now _
    c.in_ok-arguments.ensures.stays c.in_ok-locals.ensures.stays c.in_ok-returns.ensures.stays
    (c.in_ok-arguments.ensures.ok d path parameters method) c.in_ok-locals.ensures.ok c.in_ok-returns.ensures.ok c.as_slice.ensures method

pub returns-clause-within : goal.returns-clause-within
returns-clause-within c =
    frame_within c.argument_keys.new.w c.type_keys.new.w c.type_key.new.w _ _ _ _ c.in_ok-locals.ensures.stays c.in_ok-returns.ensures.stays
    (c.in_ok-arguments.ensures.ok (record { path = c.args.path.now; parameters = c.args.parameters; method = c.args.method.now }) refl refl refl) c.in_ok-locals.ensures.ok c.in_ok-returns.ensures.ok
