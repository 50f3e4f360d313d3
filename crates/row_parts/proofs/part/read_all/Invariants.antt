use Rattle.std.specs.List.{AllZip, range_with_len}
use Rattle.row_parts.proofs.part.read_all.Given as goal

abbrev pub invariant-loop-k : goal.invariant-loop-k
invariant-loop-k g l = AllZip (g.P.Part.gives l.part) (range_with_len l.rows.first l.k) l.parts
