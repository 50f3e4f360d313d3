use Rattle.std.proofs.Common.{◌≡◌, nat_lt, sym, ap, ◌∙◌}
use Rattle.std.specs.Prelude.{None, Some, if◌then◌else◌}
use Rattle.check_data.proofs.FieldLemmas.{none_short, some_short}
use Rattle.check_data.proofs.mapped_fields.label_if_short.Goals as goal

pub returns-in-Some : goal.returns-in-Some
returns-in-Some c known e =
    c.label_if.ensures
    ∙ ap (λ n. if nat_lt c.in-Some.length n then Some c.args.token else None) c.from.ensures
    ∙ some_short c.args.size c.in-Some.length c.args.token known c.ranges.size.fits (sym c.in-Some.is ∙ e)

pub returns-in-None : goal.returns-in-None
returns-in-None c known e = none_short c.args.size c.args.token known (sym c.in-None.is ∙ e)
