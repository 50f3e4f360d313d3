use Rattle.std.proofs.Common.{ℕ, ◌+◌, ◌-◌, List, sym, ◌∙◌, ap, subst}
use Rattle.std.specs.Prelude.{Contains, sum_by}
use Rattle.image_types.proofs.MemberRuns.{methods_are}
use Rattle.row_parts.proofs.OwnedRows.{range_contains}
use Rattle.image_weights.specs.RowWeights.{method_row}
use Rattle.image_weights.proofs.member_runs.charge_type_methods.Goals as goal

pub charge_methods-requires-clause-there : goal.charge_methods-requires-clause-there
charge_methods-requires-clause-there g c = λ k less.
    let image = c.args.source.now.image.now in
    let rows = c.run_rows-rows.result in
    c.requires.stands.methods c.args.row (rows.first + k) c.requires.there
    (subst (λ (all : List ℕ). Contains all (rows.first + k)) (sym (methods_are image c.args.row ∙ c.run_rows-rows.ensures.rows)) (range_contains rows.first rows.count k less))

pub returns : goal.returns
returns g c =
    let image = c.args.source.now.image.now in
    let told = g.W.RowWeights.told c.args.source.now.weights.now in
    c.charge_methods.ensures ∙ ap (λ (all : List ℕ). c.args.left - sum_by (method_row image told) all) (sym (methods_are image c.args.row ∙ c.run_rows-rows.ensures.rows))
