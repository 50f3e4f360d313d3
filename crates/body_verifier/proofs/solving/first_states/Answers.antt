use Rattle.std.proofs.Common.{arith}
use Rattle.body_verifier.proofs.SolveLemmas.{first_more, first_all}
use Rattle.body_verifier.proofs.solving.first_states.Goals as goal

pub loop-preserved : goal.loop-preserved
loop-preserved c =
    (omega arith, first_more c.loop.counter c.loop.states c.push-in-loop.new.self c.loop.invariant.0 c.loop.invariant.1 c.in_ok-push-2.ensures.ok)

pub returns : goal.returns
returns c = first_all c.loop.counter c.args.count c.loop.states (omega arith) c.loop.invariant.1
