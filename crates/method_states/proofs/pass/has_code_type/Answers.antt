use Rattle.std.proofs.Common.{arith}
use Rattle.method_states.proofs.Steps.{columns_of_methods}
use Rattle.method_states.proofs.pass.has_code_type.Goals as goal

pub cell-flags-requires-clause-column : goal.cell-flags-requires-clause-column
cell-flags-requires-clause-column c = let l = columns_of_methods in omega arith
