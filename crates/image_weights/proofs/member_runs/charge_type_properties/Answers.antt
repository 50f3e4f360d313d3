use Rattle.std.proofs.Common.{◌≡◌, ℕ, ◌+◌, ◌-◌, List, sym, ◌∙◌, ap, subst, arith}
use Rattle.std.specs.List.{range_with_len}
use Rattle.std.specs.Prelude.{Contains, sum_by}
use Rattle.image_model.specs.Rows.{properties_of}
use Rattle.image_types.proofs.MemberRuns.{properties_none, properties_some, map_there}
use Rattle.row_parts.proofs.OwnedRows.{range_contains}
use Rattle.image_weights.specs.RowWeights.{property_row}
use Rattle.image_weights.proofs.member_runs.charge_type_properties.Goals as goal

pub bounds-maps-row : goal.bounds-maps-row
bounds-maps-row g c = let long = c.requires.maps.long in let upto = c.requires.there.1 in omega (arith, long, upto)

pub returns-then-map-eq0 : goal.returns-then-map-eq0
returns-then-map-eq0 g c =
    let image = c.args.source.now.image.now in
    let told = g.W.RowWeights.told c.args.source.now.weights.now in
    let none : sum_by (property_row image told) (properties_of image c.args.row) ≡ 0 = ap (sum_by (property_row image told)) (properties_none image c.args.maps.now c.args.row c.requires.maps c.if-map-eq0.true) in
    omega (arith, none)

pub run_rows-rows-requires-clause-there : goal.run_rows-rows-requires-clause-there
run_rows-rows-requires-clause-there g c = map_there c.args.source.now.image.now 0x15 c.args.maps.now c.requires.maps c.args.row (let n = c.if-map-eq0.false in omega arith)

pub charge_properties-requires-clause-there : goal.charge_properties-requires-clause-there
charge_properties-requires-clause-there g c = λ k less.
    let image = c.args.source.now.image.now in
    let rows = c.run_rows-rows.result in
    let are : properties_of image c.args.row ≡ range_with_len rows.first rows.count = properties_some image c.args.maps.now c.args.row c.requires.maps (let n = c.if-map-eq0.false in omega arith) ∙ c.run_rows-rows.ensures.rows in
    c.requires.stands.properties c.args.row (rows.first + k) c.requires.there (subst (λ (all : List ℕ). Contains all (rows.first + k)) (sym are) (range_contains rows.first rows.count k less))

pub charge_properties-requires-clause-meets : goal.charge_properties-requires-clause-meets
charge_properties-requires-clause-meets g c = c.requires.stands.structure

pub returns : goal.returns
returns g c =
    let image = c.args.source.now.image.now in
    let told = g.W.RowWeights.told c.args.source.now.weights.now in
    let rows = c.run_rows-rows.result in
    let are : properties_of image c.args.row ≡ range_with_len rows.first rows.count = properties_some image c.args.maps.now c.args.row c.requires.maps (let n = c.if-map-eq0.false in omega arith) ∙ c.run_rows-rows.ensures.rows in
    c.charge_properties.ensures ∙ ap (λ (all : List ℕ). c.args.left - sum_by (property_row image told) all) (sym are)
