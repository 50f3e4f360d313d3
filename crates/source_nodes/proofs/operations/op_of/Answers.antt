use Rattle.std.proofs.Common.{ap, ◌∙◌}
use Rattle.std.specs.Prelude.{find, bytes_eq}
use Rattle.opcode_table.specs.Opcodes.{names}
use Rattle.source_model.specs.Instructions.{op_or_nop}
use Rattle.source_model.specs.Source.{spelling}
use Rattle.source_nodes.proofs.operations.op_of.Goals as goal

pub returns : goal.returns
returns c s p r e =
    c.op_at.ensures s r ∙ ap (λ k. op_or_nop (find (λ row. bytes_eq row.0 (spelling s k)) names)) (c.first_token.ensures p.below e)
