use Rattle.std.proofs.Common.{◌+◌, arith}
use Rattle.row_weights.specs.Rows.{known}
use Rattle.row_weights.proofs.Telling.{instance_told}
use Rattle.row_weights.proofs.methods.instance.Goals as goal

pub returns : goal.returns
returns g c =
    instance_told (known c.args.given.now.image.now c.args.given.now.names.now.weights (g.O.Owners.facts c.args.given.now.signatures.now.owners.now)) c.requires.known c.args.row (c.from.result + c.from-2.result) c.generic_of-generic.result c.arguments.result c.requires.there
    c.generic_of-generic.ensures c.arguments.ensures (let a = c.from.ensures in let b = c.from-2.ensures in omega (arith, a, b))
