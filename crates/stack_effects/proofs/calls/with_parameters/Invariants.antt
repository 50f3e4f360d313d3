use Rattle.std.proofs.Common.{List, ◌++◌, map, take}
use Rattle.std.specs.List.{AllZip}
use Rattle.type_terms.specs.declared.reference.MethodRef.{MethodRef}
use Rattle.type_hierarchy.specs.World.{hierarchy, Stays}
use Rattle.code_flow.specs.Demands.{Demand}
use Rattle.stack_rows.specs.RowMeanings.{MeansDemand}
use Rattle.stack_effects.specs.MemberMeanings.{MeansCall}
use Rattle.code_flow.specs.Rows.{parameter_demand}
use Rattle.stack_effects.proofs.calls.with_parameters.Given as goal

abbrev pub invariant-loop-t : goal.invariant-loop-t
invariant-loop-t l = record {
  stays : Stays l.fn.w l.w;
  asked : (m : MethodRef) (os : List Demand) → MeansCall l.fn.w.nodes l.parts (hierarchy l.fn.w) m → AllZip (MeansDemand l.fn.w.nodes) l.fn.operands os
      → AllZip (MeansDemand l.w.nodes) l.operands (os ++ map (parameter_demand (hierarchy l.fn.w) m) (take l.t-index l.params));
}
