use Rattle.std.proofs.Common.{ℕ, ◌+◌, ◌-◌, List, sym, ◌∙◌, ap, subst}
use Rattle.std.specs.Prelude.{Contains, sum_by}
use Rattle.image_types.proofs.MemberRuns.{fields_are}
use Rattle.row_parts.proofs.OwnedRows.{range_contains}
use Rattle.image_weights.specs.RowWeights.{field_row}
use Rattle.image_weights.proofs.member_runs.charge_type_fields.Goals as goal

pub charge_fields-requires-clause-there : goal.charge_fields-requires-clause-there
charge_fields-requires-clause-there g c = λ k less.
    let image = c.args.source.now.image.now in
    let rows = c.run_rows-rows.result in
    c.requires.stands.fields c.args.row (rows.first + k) c.requires.there
    (subst (λ (all : List ℕ). Contains all (rows.first + k)) (sym (fields_are image c.args.row ∙ c.run_rows-rows.ensures.rows)) (range_contains rows.first rows.count k less))

pub charge_fields-requires-clause-meets : goal.charge_fields-requires-clause-meets
charge_fields-requires-clause-meets g c = c.requires.stands.structure

pub returns : goal.returns
returns g c =
    let image = c.args.source.now.image.now in
    let told = g.W.RowWeights.told c.args.source.now.weights.now in
    c.charge_fields.ensures
    ∙ ap (λ (all : List ℕ). c.args.left - sum_by (field_row image told c.args.source.now.sizes.now) all) (sym (fields_are image c.args.row ∙ c.run_rows-rows.ensures.rows))
