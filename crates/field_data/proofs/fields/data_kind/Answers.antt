use Rattle.std.proofs.Common.{◌∙◌}
use Rattle.field_data.proofs.Walked.{field_is}
use Rattle.field_data.proofs.fields.data_kind.Goals as goal

pub returns : goal.returns
returns c image owners t is =
    let k = field_is image owners c.args.signature.now t is in
    (k.0, c.field_kind.ensures ∙ k.1, k.2)
