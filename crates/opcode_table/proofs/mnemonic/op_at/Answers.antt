use Rattle.std.proofs.Common.{ℕ, List}
use Rattle.std.proofs.Math.ListN.{get_or-map}
use Rattle.opcode_table.specs.declared.op.Op.{Op}
use Rattle.opcode_table.specs.declared.table.Opcode.{Opcode}
use Rattle.opcode_table.specs.Opcodes.{names}
use Rattle.opcode_table.proofs.mnemonic.op_at.Goals as goal

-- the field of the row at a place is the one at that place of the rows' fields
pub returns : goal.returns
unfolding names
returns c =
    rw (← get_or-map (λ (r : Opcode). r.op)) (get_or-map (λ (p : List ℕ × Op). p.1) names c.args.place _)
