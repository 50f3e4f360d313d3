use Rattle.std.proofs.Common.{◌≡◌, ◌<◌, length}
use Rattle.std.specs.Prelude.{IfSome}
use Rattle.type_hierarchy.specs.World.{hierarchy, Stays}
use Rattle.code_flow.specs.Frames.{Frame}
use Rattle.stack_rows.specs.RowMeanings.{type_option, MeansFrame}
use Rattle.code_flow.specs.Rows.{constraint}
use Rattle.body_verifier.proofs.RowLists.{RowsTo}
use Rattle.body_verifier.proofs.rows.rows_of.Given as goal

abbrev pub invariant-loop-ins : goal.invariant-loop-ins
invariant-loop-ins l = record {
  stays : Stays l.fn.w l.w;
  within : IfSome l.constrained (λ k. k < length l.w.nodes);
  constrained : (f : Frame) → f.types ≡ hierarchy l.fn.w → f.code ≡ l.code → type_option l.w.nodes l.constrained ≡ constraint f l.ins-index;
  rows : (f : Frame) → f.types ≡ hierarchy l.fn.w → f.code ≡ l.code → MeansFrame l.fn.w.nodes l.frame f → RowsTo l.w.nodes l.rows f l.ins-index;
}
