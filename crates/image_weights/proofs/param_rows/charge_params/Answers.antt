use Rattle.std.proofs.Common.{ℕ, ◌+◌, ◌-◌, List, sym, ◌∙◌, ap, subst}
use Rattle.std.specs.Prelude.{Contains, sum_by}
use Rattle.row_demands.proofs.RunParts.{params_are}
use Rattle.row_parts.proofs.OwnedRows.{range_contains}
use Rattle.image_weights.specs.RowWeights.{param_row}
use Rattle.image_weights.proofs.param_rows.charge_params.Goals as goal

pub charge_rows-requires-clause-there : goal.charge_rows-requires-clause-there
charge_rows-requires-clause-there g c = λ k less.
    let image = c.args.source.now.image.now in
    let rows = c.run_rows-rows.result in (
      c.requires.stands.params c.args.row (rows.first + k) c.requires.there
          (subst (λ (all : List ℕ). Contains all (rows.first + k)) (sym (params_are image c.args.row ∙ c.run_rows-rows.ensures.rows)) (range_contains rows.first rows.count k less)),
      c.requires.stands.structure,
    )

pub returns : goal.returns
returns g c =
    let image = c.args.source.now.image.now in
    let told = g.W.RowWeights.told c.args.source.now.weights.now in
    c.charge_rows.ensures ∙ ap (λ (all : List ℕ). c.args.left - sum_by (param_row image told) all) (sym (params_are image c.args.row ∙ c.run_rows-rows.ensures.rows))
