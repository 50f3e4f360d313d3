use Rattle.std.proofs.Common.{◌≡◌, ◌≤◌}
use Rattle.source_model.specs.Forest.{Forest, preorder}
use Rattle.source_model.specs.Items.{items_and_ends}
use Rattle.source_model.specs.Nodes.{Around}
use Rattle.source_model.specs.Source.{Source}
use Rattle.source_flags.specs.InRange.{AllInRange}
use Rattle.source_nodes.specs.Pieces.{ArePieces}
use Rattle.source_syntax.specs.Places.{IsAt}
use Rattle.lower_members.proofs.ParamRows.{RowsRead}
use Rattle.lower_members.proofs.params.params.Given as goal

abbrev pub invariant-loop-parameter : goal.invariant-loop-parameter
invariant-loop-parameter l = record {
  within : l.number ≤ l.parameter-index;
  so_far : (s : Source) (a : Around) → IsAt l.place s a → (f : Forest) → preorder f ≡ l.nodes → AllInRange s f → ArePieces l.nodes l.found (items_and_ends f)
      → RowsRead s a f l.number l.parameter-index l.all;
}
