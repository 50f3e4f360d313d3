use Rattle.std.proofs.Common.{◌≡◌, ◌+◌, ◌++◌, List}
use Rattle.type_hierarchy.specs.World.{hierarchy, Stays}
use Rattle.body_verifier.specs.declared.report.Broken.{Broken}
use Rattle.body_verifier.specs.Checking.{IsFrameOf}
use Rattle.code_flow.specs.Frames.{Frame}
use Rattle.body_verifier.specs.Reports.{Lists}
use Rattle.stack_states.specs.StateMeanings.{typing_of}
use Rattle.body_verifier.specs.Ways.{AreRows}
use Rattle.body_verifier.proofs.checking.broken_by.Given as goal

-- whatever lists the rest completes the whole
abbrev pub invariant-loop-k : goal.invariant-loop-k
invariant-loop-k l = record {
  stays : Stays l.fn.w l.w;
  lists : (f : Frame) (more : List Broken) → f.types ≡ hierarchy l.fn.w → IsFrameOf f l.a l.fn.w.nodes l.frame l.body l.clauses → AreRows l.fn.w.nodes l.rows f
      → Lists f (typing_of l.fn.w.nodes l.states) l.k more → Lists f (typing_of l.fn.w.nodes l.states) 0 (l.broken ++ more);
}
