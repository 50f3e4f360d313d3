use Rattle.std.proofs.Common.{◌∙◌, sym, rules}
use denote.Enum.Bare.{same_true}
use Rattle.opcode_table.specs.contracts.op.Op.{the_type}
use Rattle.il_shrink.proofs.forms.keeps.Goals as goal

pub returns : goal.returns
returns c = λ h. sym c.op_in.ensures ∙ same_true the_type (search rules) _ _ (sym c.eq.ensures ∙ h)
