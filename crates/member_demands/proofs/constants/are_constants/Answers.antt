use Rattle.std.proofs.Common.{◌≡◌, arith}
use Rattle.std.proofs.lemmas.Bool.{eq-eqb, eqb-true}
use Rattle.member_demands.proofs.constants.are_constants.Goals as goal

pub returns-then-rows-ne1 : goal.returns-then-rows-ne1
returns-then-rows-ne1 c =
    let other = c.if-rows-ne1.true in (
      λ yes. let none = eqb-true c.args.rows.count 0 yes in (omega arith, λ one. absurd (other one)),
      λ are. eq-eqb c.args.rows.count 0 (let few = are.0 in omega arith),
    )

pub returns : goal.returns
returns c =
    let one : c.args.rows.count ≡ 1 = c.if-rows-ne1.false in
    (λ yes. (omega arith, λ is. c.is_constant_row.ensures.0 yes), λ are. c.is_constant_row.ensures.1 (are.1 one))
