use Rattle.std.proofs.Common.{◌≡◌, map, take}
use Rattle.std.specs.List.{AllZip}
use Rattle.type_hierarchy.specs.World.{hierarchy, Stays}
use Rattle.code_flow.specs.Frames.{Frame}
use Rattle.body_verifier.specs.Stating.{IsStack, found_at}
use Rattle.body_verifier.proofs.stated.all_caught.Given as goal

abbrev pub invariant-loop-clause : goal.invariant-loop-clause
invariant-loop-clause l = record {
  stays : Stays l.fn.w l.w;
  caught : (f : Frame) → f.types ≡ hierarchy l.fn.w → AllZip (IsStack l.w.nodes) l.all (map (found_at f) (take l.clause-index l.clauses));
}
