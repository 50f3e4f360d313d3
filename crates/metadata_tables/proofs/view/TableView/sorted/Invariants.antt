use Rattle.std.proofs.Common.{ℕ, ◌<◌, ◌≤◌}
use Rattle.metadata_tables.specs.Order.{IsInOrder}
use Rattle.metadata_tables.proofs.view.TableView.sorted.Given as goal

abbrev pub invariant-loop-row : goal.invariant-loop-row
invariant-loop-row l = (row : ℕ) → 1 < row → row ≤ l.row → IsInOrder l.self l.table row
