use Rattle.std.proofs.Common.{inl, inr, arith}
use Rattle.std.proofs.lemmas.Bool.{eq-eqb, eqb-true, cases_lt}
use Rattle.member_demands.proofs.Valued.{layout_none, layout_many}
use Rattle.member_demands.proofs.layouts.has_layout.Goals as goal

pub returns-then-layouts-ne1 : goal.returns-then-layouts-ne1
returns-then-layouts-ne1 c =
    let rows = c.layouts_of-layouts.result in
    let are = c.layouts_of-layouts.ensures.rows in
    let other = c.if-layouts-ne1.true in (
      λ yes. layout_none c.args.image.now c.args.row rows.first rows.count are (eqb-true rows.count 0 yes),
      λ has. elim (cases_lt 1 rows.count) [
        | inl many ↦ absurd (layout_many c.args.image.now c.args.row rows.first rows.count are many has)
        | inr few ↦ eq-eqb rows.count 0 (omega arith)
      ],
    )
