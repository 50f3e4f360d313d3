use Rattle.body_codec.specs.Names.{name_map}
use Rattle.body_codec.proofs.Handlers.{HandlersTo}
use Rattle.body_codec.proofs.decoding.handlers.read_handlers.Given as goal

abbrev pub invariant-loop-one : goal.invariant-loop-one
invariant-loop-one g l =
    let n = g.N.Namer in
    HandlersTo (name_map (n.owners l.map) (n.methods l.map) (n.fields l.map) (n.locals l.map) (n.texts l.map)) l.found l.clauses l.one-index
