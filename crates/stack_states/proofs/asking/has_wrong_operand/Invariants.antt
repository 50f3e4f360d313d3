use Rattle.std.proofs.Common.{ℕ, ◌<◌}
use Rattle.type_hierarchy.specs.World.{hierarchy, Stays}
use Rattle.stack_states.specs.Asking.{IsWrongAt}
use Rattle.stack_rows.specs.RowMeanings.{row_meant, stack_meant}
use Rattle.stack_states.proofs.asking.has_wrong_operand.Given as goal

abbrev pub invariant-loop-k : goal.invariant-loop-k
invariant-loop-k l = record {
  stays : Stays l.fn.w l.w;
  none : (j : ℕ) → j < l.k → IsWrongAt j (hierarchy l.fn.w) (row_meant l.fn.w.nodes l.row) (stack_meant l.fn.w.nodes l.stack) → ⊥;
}
