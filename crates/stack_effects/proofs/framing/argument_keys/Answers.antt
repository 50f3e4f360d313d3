use Rattle.stack_effects.proofs.FrameLemmas.{arguments_are}
use Rattle.stack_effects.proofs.framing.argument_keys.Goals as goal

pub returns-clause-ok : goal.returns-clause-ok
returns-clause-ok c = λ d path parameters method.
    arguments_are c.args.w.now c.this_keys.new.w c.type_keys.new.w d c.args.path.now c.args.parameters c.args.method.now c.in_ok-arguments.arguments c.in_ok-params.params c.append.new.self _
    c.in_ok-arguments.ensures.stays c.in_ok-params.ensures.stays c.in_ok-arguments.ensures.ok c.in_ok-params.ensures.ok c.as_slice.ensures c.in_ok-append.ensures.ok path parameters method
