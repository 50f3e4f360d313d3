use Rattle.std.proofs.Common.{take}
use Rattle.std.specs.List.{sum_by}
use Rattle.told_weights.specs.Told.{Tells}
use Rattle.row_weights.specs.Rows.{known}
use Rattle.body_weights.specs.Tokens.{tokens, row_told}
use Rattle.body_weights.proofs.outlines.weigh_catches.Given as goal

abbrev pub invariant-loop-token : goal.invariant-loop-token
invariant-loop-token g l = Tells l.weight (sum_by (row_told (tokens (known l.given.members.now.image.now l.given.members.now.names.now.weights (g.O.Owners.facts l.given.members.now.signatures.now.owners.now)) l.given.methods l.given.fields.items)) (take l.token-index l.catches))
