use Rattle.std.proofs.Common.{◌+◌, sym, subst}
use Rattle.std.specs.List.{AllZip, range_with_len}
use Rattle.row_parts.proofs.Zips.{zip_range}
use Rattle.row_parts.proofs.part.read_all.Goals as goal

pub loop-k-preserved : goal.loop-k-preserved
loop-k-preserved g c =
    subst (AllZip (g.P.Part.gives c.args.part.now) (range_with_len c.args.rows.first (c.loop-k.k + 1))) (sym c.in_ok-push.ensures.ok)
    (zip_range (g.P.Part.gives c.args.part.now) c.args.rows.first c.loop-k.k c.loop-k.parts c.in_ok-read.read c.loop-k.invariant c.in_ok-read.ensures)
