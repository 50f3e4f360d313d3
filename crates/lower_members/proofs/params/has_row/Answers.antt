use Rattle.std.proofs.Common.{ap, ◌∙◌}
use Rattle.std.specs.Prelude.{not}
use Rattle.lower_members.proofs.ParamRows.{is_any_line, same_test}
use Rattle.lower_members.proofs.params.has_row.Goals as goal

pub returns : goal.returns
returns c s nodes f rs e ranged h =
    c.any.ensures ∙ same_test rs f c.has-named.result c.has_flags.result _ (c.has-named.ensures f e) (c.has_flags.ensures s f e ranged) (ap not c.is_empty.ensures ∙ is_any_line s nodes c.args.own.now rs h)
