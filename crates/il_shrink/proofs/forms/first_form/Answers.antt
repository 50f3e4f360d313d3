use Rattle.std.proofs.Common.{◌∙◌}
use Rattle.il_shrink.proofs.InsForms.{first_form_by}
use Rattle.il_shrink.proofs.forms.first_form.Goals as goal

pub returns : goal.returns
returns c = c.form_in.ensures ∙ first_form_by c.args.ins.now c.kind_of.result c.short_size.result c.kind_of.ensures c.short_size.ensures
