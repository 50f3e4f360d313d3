use Rattle.std.proofs.lemmas.Result.{err_from_is_err_and}
use Rattle.body_codec.specs.Names.{name_map, reading}
use Rattle.body_codec.proofs.Operands.{aimed_at, code_more, code_fault, any_ins}
use Rattle.body_codec.proofs.decoding.operands.read_code.Goals as goal

pub read_operand-requires-clause-aimed : goal.read_operand-requires-clause-aimed
read_operand-requires-clause-aimed g c =
    aimed_at c.args.layout.now.code.now c.args.layout.now.marks.now c.loop-k.k _ c.requires.layout.marked c.loop-k-test.true c.requires.targets

pub returns-in_err-operand-clause-fault : goal.returns-in_err-operand-clause-fault
returns-in_err-operand-clause-fault g c =
    let n = g.N.Namer in
    let names = name_map (n.owners c.args.map.now) (n.methods c.args.map.now) (n.fields c.args.map.now) (n.locals c.args.map.now) (n.texts c.args.map.now) in
    let p = err_from_is_err_and c.from_residual-in_err-operand.result c.from_residual-in_err-operand.ensures.1 in
    rw (p.1, p.2) (code_fault names c.args.layout.now.code.now c.args.layout.now.marks.now c.loop-k.code c.loop-k.k _ any_ins c.in_err-operand.field-0.0
    c.requires.layout.marked c.loop-k-test.true c.loop-k.invariant c.in_err-operand.ensures.fault)

pub loop-k-preserved : goal.loop-k-preserved
loop-k-preserved g c =
    let n = g.N.Namer in
    let names = name_map (n.owners c.args.map.now) (n.methods c.args.map.now) (n.fields c.args.map.now) (n.locals c.args.map.now) (n.texts c.args.map.now) in
    rw c.in_ok-push.ensures.ok (code_more (reading names) c.args.layout.now.code.now c.args.layout.now.marks.now c.loop-k.code c.loop-k.k _ c.in_ok-operand.operand
    c.requires.layout.marked c.loop-k-test.true c.loop-k.invariant c.in_ok-operand.ensures.spelled)
