use Rattle.body_codec.specs.Names.{name_map}
use Rattle.body_codec.proofs.Operands.{any_ins}
use Rattle.body_codec.proofs.Decoded.{only_body, only_fault}
use Rattle.body_codec.proofs.decoding.top.decode.Goals as goal

pub returns-clause-only_body : goal.returns-clause-only_body
returns-clause-only_body g c =
    let n = g.N.Namer in
    let names = name_map (n.owners c.args.map.now) (n.methods c.args.map.now) (n.fields c.args.map.now) (n.locals c.args.map.now) (n.texts c.args.map.now) in
    only_body names c.args.bytes.now any_ins c.read_body.result c.read_body.ensures.body c.read_body.ensures.fault

pub returns-clause-only_fault : goal.returns-clause-only_fault
returns-clause-only_fault g c =
    let n = g.N.Namer in
    let names = name_map (n.owners c.args.map.now) (n.methods c.args.map.now) (n.fields c.args.map.now) (n.locals c.args.map.now) (n.texts c.args.map.now) in
    only_fault names c.args.bytes.now any_ins c.read_body.result c.read_body.ensures.body c.read_body.ensures.fault
