use Rattle.body_verifier.proofs.EdgeLoop.{IsSetOff, IsFollowing}
use Rattle.body_verifier.proofs.solving.follow.Given as goal

abbrev pub invariant-loop-going : goal.invariant-loop-going
invariant-loop-going g l =
    IsSetOff g.at l.k l.stated l.after l.goings l.initial.w l.initial.states
    × IsFollowing g.at l.k l.stated l.after l.goings l.initial.w l.initial.states l.initial.list l.initial.steps l.w l.states l.list l.steps l.going-index
