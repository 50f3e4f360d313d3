use Rattle.std.proofs.Common.{sym, ◌∙◌, arith}
use Rattle.interface_marks.proofs.marks.has_last.Goals as goal

pub overflow_cast-k : goal.overflow_cast-k
overflow_cast-k c =
    let before = c.requires.before c.args.number c.in-Some.k (sym c.get.ensures ∙ c.in-Some.is) in
    let fits = c.ranges.row.fits in
    omega (arith, before, fits)
