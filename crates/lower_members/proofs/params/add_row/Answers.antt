use Rattle.std.proofs.Common.{◌++◌, ◌∷◌, [], ap, sym, ◌∙◌}
use Rattle.std.proofs.lemmas.Result.{IfOk-weaker}
use Rattle.lower_members.proofs.ParamRows.{with_row, without_row}
use Rattle.lower_members.proofs.params.add_row.Goals as goal

pub returns-in_ok-one : goal.returns-in_ok-one
returns-in_ok-one c s a x f rs e of ranged h =
    let some = sym (c.has_row.ensures s c.args.nodes.now f rs e ranged h) ∙ c.if-has_row.true in
    let one = c.in_ok-one.ensures s a x f rs e of ranged h in
    IfOk-weaker c.push.result _ _ (λ u same. same ∙ ap (λ y. c.args.all.now ++ y ∷ []) one ∙ with_row s a c.args.number f rs c.args.all.now some) c.push.ensures.ok

pub returns-else-has_row : goal.returns-else-has_row
returns-else-has_row c s a x f rs e of ranged h =
    let empty = sym (c.has_row.ensures s c.args.nodes.now f rs e ranged h) ∙ c.if-has_row.false in
    without_row s a c.args.number f rs c.args.all.now empty
