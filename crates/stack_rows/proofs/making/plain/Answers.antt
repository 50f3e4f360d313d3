use Rattle.std.proofs.Common.{List, refl, sym, subst}
use Rattle.std.specs.List.{AllZip}
use Rattle.stack_rows.specs.declared.row.Demand.{Demand}
use Rattle.stack_rows.specs.declared.row.Pushed.{Pushed}
use Rattle.stack_rows.specs.RowMeanings.{MeansDemand, MeansPushed}
use Rattle.stack_rows.proofs.RowParts.{row_means}
use Rattle.stack_rows.proofs.making.plain.Goals as goal

pub returns : goal.returns
returns c = λ ns os ps ho hp.
    row_means ns _ os _ ps refl
    (subst (λ (l : List Demand). AllZip (MeansDemand ns) l os) (sym c.in_ok-operands.ensures) ho)
    (subst (λ (l : List Pushed). AllZip (MeansPushed ns) l ps) (sym c.in_ok-pushed.ensures) hp)
