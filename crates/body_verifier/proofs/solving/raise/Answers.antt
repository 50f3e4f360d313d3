use Rattle.std.proofs.Common.{Option, None, Some, subst}
use Rattle.type_hierarchy.specs.World.{hierarchy}
use Rattle.stack_states.specs.declared.state.State.{State}
use Rattle.stack_states.specs.StateMeanings.{MeetsAs}
use Rattle.body_verifier.proofs.RaiseLemmas.{raised}
use Rattle.body_verifier.proofs.solving.raise.Goals as goal

pub returns-in-Some-clause-ok : goal.returns-in-Some-clause-ok
returns-in-Some-clause-ok c =
    let P : Option State → Type 0 = λ (r : Option State). MeetsAs (hierarchy c.args.w.now) c.args.w.now.nodes c.at.result.now c.args.comes.now c.meet.new.w.nodes r in
    raised (hierarchy c.args.w.now) c.args.w.now.nodes c.args.states.now c.args.list.now c.args.t c.args.comes.now c.meet.new.w.nodes c.at.result.now c.in-Some.met c.set.new.self c.push.new.self
    c.at.ensures (subst P c.in-Some.is c.in_ok-met.ensures.ok) c.set.ensures c.push.ensures
