use Rattle.std.proofs.Common.{refl, arith}
use Rattle.data_demands.proofs.Knowing.{by_judging}
use Rattle.value_rows.proofs.Valuing.{by_any, moved, one_layout, none_valued}
use Rattle.value_rows.proofs.values.ValuesDemand.row_meets.Goals as goal

pub returns-then-row-eq0 : goal.returns-then-row-eq0
returns-then-row-eq0 g c =
    let none = c.if-row-eq0.true in
    (λ t. none_valued c.args.self.now c.args.table c.args.row (λ there. let some = there.0 in absurd (omega arith)), λ v. refl)

pub returns-in-2 : goal.returns-in-2
returns-in-2 g c =
    let image = c.self.inside.image.now in
    moved image c.args.self.now c.self.view_is c.args.table 2 c.args.row c.in-2.is c.type_has_values.result
    (by_any image 2 c.args.row c.type_has_values.result c.self.invariant.1.named c.type_has_values.ensures)

pub returns-in-8 : goal.returns-in-8
returns-in-8 g c =
    let image = c.self.inside.image.now in
    moved image c.args.self.now c.self.view_is c.args.table 8 c.args.row c.in-8.is c.param_has_values.result
    (by_any image 8 c.args.row c.param_has_values.result c.self.invariant.1.named c.param_has_values.ensures)

pub returns-in-20 : goal.returns-in-20
returns-in-20 g c =
    let image = c.self.inside.image.now in
    moved image c.args.self.now c.self.view_is c.args.table 20 c.args.row c.in-20.is c.event_has_values.result
    (by_any image 20 c.args.row c.event_has_values.result c.self.invariant.1.named c.event_has_values.ensures)

pub returns-in-23 : goal.returns-in-23
returns-in-23 g c =
    let image = c.self.inside.image.now in
    moved image c.args.self.now c.self.view_is c.args.table 23 c.args.row c.in-23.is c.property_has_values.result
    (by_any image 23 c.args.row c.property_has_values.result c.self.invariant.1.named c.property_has_values.ensures)

pub returns-in-25 : goal.returns-in-25
returns-in-25 g c =
    let image = c.self.inside.image.now in
    moved image c.args.self.now c.self.view_is c.args.table 25 c.args.row c.in-25.is c.override_has_values.result
    (by_any image 25 c.args.row c.override_has_values.result c.self.invariant.1.named c.override_has_values.ensures)

pub field_has_values-requires-clause-can : goal.field_has_values-requires-clause-can
field_has_values-requires-clause-can g c = by_judging c.self.inside.image.now (g.O.Owners.facts c.self.inside.facts.now) c.self.invariant.1 c.self.invariant.3

pub field_has_values-requires-clause-layouts : goal.field_has_values-requires-clause-layouts
field_has_values-requires-clause-layouts g c =
    let is = c.in-4.is in
    one_layout c.self.inside.image.now c.args.self.now c.self.view_is c.self.invariant.1.named c.args.table c.args.row (omega arith) c.requires.before

pub returns-in-4 : goal.returns-in-4
returns-in-4 g c =
    moved c.self.inside.image.now c.args.self.now c.self.view_is c.args.table 4 c.args.row c.in-4.is c.field_has_values.result c.field_has_values.ensures

pub returns-in-6 : goal.returns-in-6
returns-in-6 g c =
    moved c.self.inside.image.now c.args.self.now c.self.view_is c.args.table 6 c.args.row c.in-6.is c.method_has_values.result c.method_has_values.ensures

pub returns-in-43 : goal.returns-in-43
returns-in-43 g c =
    moved c.self.inside.image.now c.args.self.now c.self.view_is c.args.table 43 c.args.row c.in-43.is c.instance_has_values.result c.instance_has_values.ensures
