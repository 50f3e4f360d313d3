use Rattle.std.proofs.Common.{◌∙◌, arith}
use Rattle.row_weights.specs.Rows.{known}
use Rattle.body_weights.specs.Tokens.{tokens, row_told}
use Rattle.body_weights.proofs.Weighing.{sum_more, sum_all}
use Rattle.body_weights.proofs.outlines.weigh_catches.Goals as goal

pub loop-token-preserved : goal.loop-token-preserved
loop-token-preserved g c =
    sum_more (row_told (tokens (known c.args.given.now.members.now.image.now c.args.given.now.members.now.names.now.weights (g.O.Owners.facts c.args.given.now.members.now.signatures.now.owners.now)) c.args.given.now.methods c.args.given.now.fields.items))
    c.args.catches.now c.loop-token.token-index _ c.loop-token.weight c.from.result c.saturating_add-weight.result c.loop-token-test.true (c.from.ensures ∙ c.of_token.ensures) c.saturating_add-weight.ensures c.loop-token.invariant

pub returns : goal.returns
returns g c =
    sum_all (row_told (tokens (known c.args.given.now.members.now.image.now c.args.given.now.members.now.names.now.weights (g.O.Owners.facts c.args.given.now.members.now.signatures.now.owners.now)) c.args.given.now.methods c.args.given.now.fields.items))
    c.args.catches.now c.loop-token.token-index c.loop-token.weight (omega arith) c.loop-token.invariant
