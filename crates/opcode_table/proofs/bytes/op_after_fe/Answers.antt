use Rattle.std.proofs.Common.{◌≡◌, ℕ, None, Some, refl}
use Rattle.opcode_table.specs.declared.bytes.TheConstants.{AFTER_FE}
use Rattle.opcode_table.proofs.ByteTables.{found_at}
use Rattle.opcode_table.proofs.bytes.op_after_fe.Goals as goal

pub returns-then-byte-lt31-clause-found : goal.returns-then-byte-lt31-clause-found
returns-then-byte-lt31-clause-found c = found_at (λ n. (0xFE, Some n)) AFTER_FE c.args.byte refl
