use Rattle.std.proofs.Common.{arith}
use Rattle.method_states.proofs.Steps.{columns_of_methods}
use Rattle.body_tokens.proofs.search.rva_of.Goals as goal

pub cell-requires-clause-column : goal.cell-requires-clause-column
cell-requires-clause-column c = let l = columns_of_methods in omega arith
