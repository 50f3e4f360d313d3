use Rattle.std.proofs.Common.{take}
use Rattle.sig_pool.specs.Pool.{HasAll}
use Rattle.type_hierarchy.specs.World.{hierarchy, Stays}
use Rattle.code_flow.specs.Frames.{types_in}
use Rattle.stack_effects.proofs.calls.type_keys.Given as goal

abbrev pub invariant-loop-t : goal.invariant-loop-t
invariant-loop-t l = record {
  stays : Stays l.fn.w l.w;
  has : HasAll l.w.nodes l.keys (types_in (hierarchy l.fn.w) (take l.t-index l.types));
}
