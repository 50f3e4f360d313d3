use Rattle.std.proofs.Common.{◌≡◌, ◌++◌, ℕ, List, ◌∙◌}
use Rattle.std.specs.Prelude.{slice_index}
use Rattle.metadata_tables.specs.Bytes.{count_bytes}
use Rattle.metadata_tables.proofs.Joins.{joined_start, joined_push, count_some, count_skip}
use Rattle.metadata_tables.proofs.encoding.push_counts.Goals as goal
use Rattle.metadata_tables.proofs.encoding.push_counts.Goals.{then-count-gt0+in_ok-push_cell, else-count-gt0}

abbrev piece : List ℕ → ℕ → List ℕ
piece counts k = count_bytes (slice_index counts k)

pub loop-count-init : goal.loop-count-init
loop-count-init c = joined_start c.args.out.now (piece c.args.counts.now)

pub loop-count-preserved : goal.loop-count-preserved
loop-count-preserved c =
    let n = slice_index c.args.counts.now c.loop-count.count-index in
    let added : c.if-count-gt0.out ≡ c.loop-count.out ++ count_bytes n = elim c.if-count-gt0.branch [
      | then-count-gt0+in_ok-push_cell w ↦
          w.out-is ∙ count_some c.loop-count.out w.push_cell.new.out n w.if-count-gt0.true w.in_ok-push_cell.ensures
      | else-count-gt0 w ↦
          count_skip c.loop-count.out c.if-count-gt0.out n w.if-count-gt0.false w.out-is
    ] in
    joined_push c.args.out.now c.loop-count.out c.if-count-gt0.out (piece c.args.counts.now) c.loop-count.count-index c.loop-count.invariant added
