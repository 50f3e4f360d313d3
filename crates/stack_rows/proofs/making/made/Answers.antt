use Rattle.std.proofs.Common.{refl}
use Rattle.stack_rows.proofs.RowParts.{row_means}
use Rattle.stack_rows.proofs.making.made.Goals as goal

pub returns : goal.returns
returns c = λ ns os ps ho hp. row_means ns _ os _ ps refl ho hp
