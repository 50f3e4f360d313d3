use Rattle.std.proofs.Common.{ap, ◌∙◌}
use Rattle.std.specs.Prelude.{fold}
use Rattle.source_model.specs.Parameters.{with_line_flags}
use Rattle.lower_members.proofs.ParamRows.{same_row}
use Rattle.lower_members.proofs.params.row.Goals as goal

pub returns : goal.returns
returns c s a x f rs e of ranged h =
    same_row s a f rs c.args.number c.with_lines-flags.result c.in_ok-name.name c.in_ok-constant.constant c.in_ok-customs.customs
    (c.with_lines-flags.ensures s rs x.reads h ∙ ap (λ z. fold (with_line_flags s) z rs) (c.parameter_flags.ensures.all s f x.reads e ranged))
    (c.in_ok-name.ensures s f x.reads e of ranged) (c.in_ok-constant.ensures s rs x.reads h) (c.in_ok-customs.ensures s a x rs h)
