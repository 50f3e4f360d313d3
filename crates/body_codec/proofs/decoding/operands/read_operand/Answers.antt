use Rattle.std.proofs.Common.{rules, ◌≡◌}
use Rattle.byteorder.specs.Endian.{little_number}
use Rattle.body_codec.specs.Instruction.{kind}
use Rattle.body_codec.specs.Names.{name_map}
use Rattle.body_codec.specs.Reading.{piece_of, pieces_of}
use Rattle.body_codec.proofs.Operands.{token_spelled}
use Rattle.body_codec.proofs.decoding.operands.read_operand.Goals as goal

pub returns-in_ok-named-in_default-clause-spelled : goal.returns-in_ok-named-in_default-clause-spelled
returns-in_ok-named-in_default-clause-spelled g c =
    let n = g.N.Namer in
    let names = name_map (n.owners c.args.map.now) (n.methods c.args.map.now) (n.fields c.args.map.now) (n.locals c.args.map.now) (n.texts c.args.map.now) in
    let ps = pieces_of c.args.layout.now.code.now c.args.layout.now.marks.now in
    let tail = (piece_of c.args.layout.now.code.now c.args.mark.now).tail in
    let number : c.read_u32.result ≡ little_number 4 tail = search rules in
    token_spelled names ps (kind c.args.mark.now.op) c.kind.result tail c.args.mark.now.end c.read_u32.result c.in_ok-named-in_default.named _ c.ok_or.result
    c.requires.mark.whole.size c.kind.ensures number c.in_ok-named-in_default.ensures c.ok_or.ensures.value
