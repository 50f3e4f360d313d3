use Rattle.std.proofs.Common.{List, [], ◌∷◌, refl, sym, subst}
use Rattle.std.specs.List.{AllZip}
use Rattle.stack_rows.specs.declared.row.Demand.{Demand}
use Rattle.stack_rows.specs.declared.row.Pushed.{Pushed}
use Rattle.code_flow.specs.Demands as demands
use Rattle.stack_rows.specs.RowMeanings.{MeansDemand, MeansPushed}
use Rattle.stack_rows.proofs.RowParts.{row_means}
use Rattle.stack_rows.proofs.making.pair.Goals as goal

pub returns : goal.returns
returns c = λ ns ps hp.
    row_means ns _ (demands.comparable ∷ demands.comparable ∷ []) _ ps refl
    (subst (λ (l : List Demand). AllZip (MeansDemand ns) l (demands.comparable ∷ demands.comparable ∷ [])) (sym c.in_ok-operands.ensures) (record { within = tt; is = refl }, (record { within = tt; is = refl }, tt)))
    (subst (λ (l : List Pushed). AllZip (MeansPushed ns) l ps) (sym c.in_ok-pushed.ensures) hp)
