use Rattle.body_verifier.proofs.PathsRight.{never_wrong}
use Rattle.body_verifier.proofs.laws.paths_are_right.Goals as goal

pub returns : goal.returns
returns c = λ f height g formed typing solves right.
    never_wrong f height g (c.assignable_is_a_preorder.ensures.transitive f.types height g) (c.instructions_are_monotone.ensures f height g) formed typing solves right
