use Rattle.std.proofs.Common.{slice_index}
use Rattle.metadata_tables.proofs.Layouts.{IsLaidUpto}
use Rattle.metadata_tables.proofs.layout.row_layout.Given as goal

abbrev pub invariant-loop-k : goal.invariant-loop-k
invariant-loop-k l = IsLaidUpto (slice_index l.counts) l.heaps l.columns l.k l.size l.places l.widths
