use Rattle.body_codec.specs.Names.{reading, name_map}
use Rattle.body_codec.specs.Reading.{pieces_of}
use Rattle.body_codec.proofs.Operands.{SpellsTo}
use Rattle.body_codec.proofs.decoding.operands.read_code.Given as goal

abbrev pub invariant-loop-k : goal.invariant-loop-k
invariant-loop-k g l =
    let n = g.N.Namer in
    SpellsTo (reading (name_map (n.owners l.map) (n.methods l.map) (n.fields l.map) (n.locals l.map) (n.texts l.map))) (pieces_of l.layout.code.now l.layout.marks.now) l.code l.k
