use Rattle.std.proofs.Common.{◌≡◌, ◌<◌, ℕ, List, [], length, arith}
use Rattle.std.specs.Prelude.{slice_index, slice_index_or}
use Rattle.metadata_tables.specs.Bytes.{row_bytes, FitsRow}
use Rattle.metadata_tables.proofs.Joins.{joined_start, joined_push}
use Rattle.metadata_tables.proofs.encoding.push_rows.Goals as goal

abbrev piece : List ℕ → List (List ℕ) → ℕ → List ℕ
piece widths rows k = row_bytes (slice_index widths) (slice_index_or rows k [])

pub loop-k-init : goal.loop-k-init
loop-k-init c = joined_start c.args.out.now (piece c.args.widths.now c.args.rows.now)

fits : (widths : ℕ → ℕ) (rows : List (List ℕ)) (k : ℕ) (row : List ℕ) → ((j : ℕ) → j < length rows → FitsRow widths (slice_index_or rows j [])) → k < length rows → row ≡ slice_index_or rows k [] → FitsRow widths row
fits widths rows k row all h e = rw e (all k h)

pub push_row-requires-clause-cells : goal.push_row-requires-clause-cells
push_row-requires-clause-cells c =
    fits (slice_index c.args.widths.now) c.args.rows.now c.loop-k.k c.row.result.now c.requires.cells (omega arith) c.row.ensures

pub loop-k-preserved : goal.loop-k-preserved
loop-k-preserved c =
    joined_push c.args.out.now c.loop-k.out c.push_row.new.out (piece c.args.widths.now c.args.rows.now) c.loop-k.k c.loop-k.invariant (rw c.row.ensures at c.in_ok-push_row.ensures)
