use Rattle.std.proofs.Common.{sym, ◌∙◌, arith}
use Rattle.std.proofs.lemmas.Bool.{eq-eqb, eqb-true, ltb-true}
use Rattle.member_demands.proofs.ConstantCases.{string_told, width_told}
use Rattle.member_demands.proofs.constants.is_constant.Goals as goal

pub returns-then-element-eq14 : goal.returns-then-element-eq14
returns-then-element-eq14 c =
    let told = string_told c.args.element c.args.value.now c.if-element-eq14.true in
    (λ yes. told.1 (eqb-true _ 0 yes), λ makes. eq-eqb _ 0 (told.0 makes))

pub returns-then-width-gt0 : goal.returns-then-width-gt0
returns-then-width-gt0 c =
    let told = width_told c.args.element c.args.value.now c.if-element-eq14.false in
    let width = c.width_of-width.ensures in
    let some = c.if-width-gt0.true in
    (λ yes. told.1 (omega arith, eqb-true _ _ yes ∙ width), λ makes. eq-eqb _ _ ((told.0 makes).1 ∙ sym width))

pub returns-else-width-gt0 : goal.returns-else-width-gt0
returns-else-width-gt0 c =
    let told = width_told c.args.element c.args.value.now c.if-element-eq14.false in
    let width = c.width_of-width.ensures in
    let none = c.if-width-gt0.false in
    (λ yes. let l = ltb-true 0 c.width_of-width.result yes in absurd (omega arith), λ makes. let some = (told.0 makes).0 in absurd (omega arith))
