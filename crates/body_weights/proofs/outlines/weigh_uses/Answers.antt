use Rattle.std.proofs.Common.{arith}
use Rattle.row_weights.specs.Rows.{known}
use Rattle.body_weights.specs.Tokens.{tokens, use_told}
use Rattle.body_weights.proofs.Weighing.{sum_more, sum_all}
use Rattle.body_weights.proofs.outlines.weigh_uses.Goals as goal

pub loop-one-preserved : goal.loop-one-preserved
loop-one-preserved g c =
    sum_more (use_told (tokens (known c.args.given.now.members.now.image.now c.args.given.now.members.now.names.now.weights (g.O.Owners.facts c.args.given.now.members.now.signatures.now.owners.now)) c.args.given.now.methods c.args.given.now.fields.items))
    c.args.uses.now c.loop-one.one-index _ c.loop-one.weight c.of_use.result c.saturating_add-weight.result c.loop-one-test.true c.of_use.ensures c.saturating_add-weight.ensures c.loop-one.invariant

pub returns : goal.returns
returns g c =
    sum_all (use_told (tokens (known c.args.given.now.members.now.image.now c.args.given.now.members.now.names.now.weights (g.O.Owners.facts c.args.given.now.members.now.signatures.now.owners.now)) c.args.given.now.methods c.args.given.now.fields.items))
    c.args.uses.now c.loop-one.one-index c.loop-one.weight (omega arith) c.loop-one.invariant
