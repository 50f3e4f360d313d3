use Rattle.std.proofs.Common.{◌≡◌, ℕ, None, Some, refl}
use Rattle.opcode_table.specs.declared.bytes.TheConstants.{OF_BYTE}
use Rattle.opcode_table.proofs.ByteTables.{found_at}
use Rattle.opcode_table.proofs.bytes.op_of_byte.Goals as goal

pub returns-clause-found : goal.returns-clause-found
returns-clause-found c = found_at (λ n. (n, None)) OF_BYTE c.args.byte refl
