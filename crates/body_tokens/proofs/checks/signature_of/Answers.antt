use Rattle.std.proofs.Common.{arith}
use Rattle.body_tokens.proofs.Checking.{columns_of_members}
use Rattle.body_tokens.proofs.checks.signature_of.Goals as goal

pub cell-requires-clause-column : goal.cell-requires-clause-column
cell-requires-clause-column c = let l = columns_of_members in omega arith
