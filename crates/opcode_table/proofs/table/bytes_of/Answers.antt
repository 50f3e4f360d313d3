use Rattle.std.proofs.Common.{ℕ, List, get_or, map, ap, ◌∙◌}
use Rattle.std.proofs.Math.ListN.{get_or-map, get_or-append}
use Rattle.opcode_table.specs.declared.op.Op.{Op}
use Rattle.opcode_table.specs.declared.table.Opcode.{Opcode}
use Rattle.opcode_table.specs.Opcodes.{Row, opcodes, aliases, number_of, bytes_of}
use Rattle.opcode_table.proofs.table.bytes_of.Goals as goal

-- the field of the row at a place is the one at that place of the rows' fields
pub returns : goal.returns
returns c =
    rw (← get_or-map (λ (r : Opcode). r.bytes)) (
    get_or-append (map (λ (r : Row). r.bytes) opcodes) (map (λ (p : List ℕ × Op). bytes_of p.1) aliases) _ c.number_of.result
    c.number_of.ensures.below
    ∙ ap (λ n. get_or (map (λ (r : Row). r.bytes) opcodes) n _) c.number_of.ensures.value
    ∙ get_or-map (λ (r : Row). r.bytes) opcodes (number_of c.args.op) _)
