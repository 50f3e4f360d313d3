use Rattle.twin_numbers.specs.Numbered.{AreFirsts, AreNumbered}
use Rattle.twin_numbers.proofs.numbers.number_twins.Given as goal

abbrev pub invariant-loop-k : goal.invariant-loop-k
invariant-loop-k g l =
    AreFirsts (g.L.Likeness.rows l.rows) (g.L.Likeness.alike l.rows) (g.L.Likeness.hashed l.rows) l.firsts
    × AreNumbered (g.L.Likeness.rows l.rows) (g.L.Likeness.alike l.rows) l.firsts l.k l.numbers
