use Rattle.std.proofs.Common.{ℕ, List, length, arith}
use Rattle.std.specs.Prelude.{slice_index}
use Rattle.metadata_tables.specs.Bytes.{number_bytes}
use Rattle.metadata_tables.proofs.Joins.{joined_start, joined_push, joined_end}
use Rattle.metadata_tables.proofs.encoding.push_row.Goals as goal

abbrev piece : List ℕ → List ℕ → ℕ → List ℕ
piece widths cells k = number_bytes (slice_index widths k) (slice_index cells k)

pub loop-k-init : goal.loop-k-init
loop-k-init c = joined_start c.args.out.now (piece c.args.widths.now c.args.cells.now)

pub loop-k-preserved : goal.loop-k-preserved
loop-k-preserved c =
    joined_push c.args.out.now c.loop-k.out c.push_cell.new.out (piece c.args.widths.now c.args.cells.now) c.loop-k.k c.loop-k.invariant c.in_ok-push_cell.ensures

pub returns : goal.returns
returns c =
    joined_end c.args.out.now c.loop-k.out (piece c.args.widths.now c.args.cells.now) c.loop-k.k (length c.args.cells.now) c.loop-k.invariant (omega arith)
