use Rattle.std.proofs.Common.{arith}
use Rattle.image_weights.proofs.RowSums.{range_sum}
use Rattle.image_weights.proofs.rows.charge_rows.Goals as goal

pub loop-k-preserved : goal.loop-k-preserved
loop-k-preserved g c =
    let more = range_sum (g.C.Charges.weight c.args.each.now) c.args.rows.first c.loop-k.k in
    let before = c.loop-k.invariant in
    let off = c.charge-left.ensures in
    omega (arith, more, before, off)
