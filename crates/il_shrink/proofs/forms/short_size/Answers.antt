use Rattle.std.proofs.Common.{◌∙◌}
use Rattle.il_shrink.proofs.InsForms.{short_size_by}
use Rattle.il_shrink.proofs.forms.short_size.Goals as goal

pub returns : goal.returns
returns c =
    c.min.ensures
    ∙ short_size_by c.args.ins.now c.kind_of.result c.opcode_size.result c.operand_bytes.result c.kind_of.ensures c.opcode_size.ensures.size c.operand_bytes.ensures.value
