use Rattle.std.proofs.Common.{◌≡◌, ◌+◌, sym, arith}
use Rattle.std.specs.Prelude.{slice_index}
use Rattle.std.proofs.lemmas.Nat.{one_shl}
use Rattle.metadata_tables.specs.Bytes.{mask_upto}
use Rattle.metadata_tables.proofs.Masks.{mask_none, mask_some, mask_skip, mask_lt}
use Rattle.metadata_tables.proofs.encoding.present.Goals as goal
use Rattle.metadata_tables.proofs.encoding.present.Goals.{then-counts-table-gt0, else-counts-table-gt0}

pub loop-table-init : goal.loop-table-init
loop-table-init c = (sym (mask_none (slice_index c.args.counts.now)), omega arith)

pub loop-table-preserved : goal.loop-table-preserved
loop-table-preserved c =
    let f = slice_index c.args.counts.now in
    let t = c.loop-table.table in
    let is : c.if-counts-table-gt0.present ≡ mask_upto f (t + 1) = elim c.if-counts-table-gt0.branch [
      | then-counts-table-gt0 w ↦
          let one = one_shl t 64 (omega arith) in
          let more = mask_some f t w.if-counts-table-gt0.true in
          omega (arith, w.present-is, one, more, c.loop-table.invariant.0)
      | else-counts-table-gt0 w ↦
          let more = mask_skip f t w.if-counts-table-gt0.false in
          omega (arith, w.present-is, more, c.loop-table.invariant.0)
    ] in
    (is, rw is (mask_lt f (t + 1)))
