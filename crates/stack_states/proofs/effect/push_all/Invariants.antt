use Rattle.std.proofs.Common.{◌++◌, take, map}
use Rattle.type_hierarchy.specs.Meaning.{meant}
use Rattle.type_hierarchy.specs.World.{Stays}
use Rattle.stack_rows.specs.RowMeanings.{given_by, pushed_meant, stack_meant, MeansStack}
use Rattle.stack_states.proofs.effect.push_all.Given as goal

abbrev pub invariant-loop-value : goal.invariant-loop-value
invariant-loop-value l =
    let ns = l.fn.w.nodes in
    record {
      stays : Stays l.fn.w l.w;
      means : MeansStack l.w.nodes l.stack (stack_meant ns l.fn.stack ++ map (given_by (meant ns l.first) (meant ns l.second)) (map (pushed_meant ns) (take l.value-index l.pushed)));
    }
