use Rattle.std.proofs.Common.{◌≡◌}
use Rattle.row_weights.proofs.signatures.SignatureWeights.add_table.Given as goal

abbrev pub invariant-loop-row : goal.invariant-loop-row
invariant-loop-row g l = (l.self.image ≡ l.fn.self.image) × (l.self.owners ≡ l.fn.self.owners)
