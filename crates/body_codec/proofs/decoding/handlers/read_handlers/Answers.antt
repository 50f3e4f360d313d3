use Rattle.std.proofs.Common.{arith, ◌≡◌, length}
use Rattle.std.proofs.lemmas.Result.{err_from_is_err_and}
use Rattle.body_codec.specs.Names.{name_map}
use Rattle.body_codec.proofs.Handlers.{handlers_more, handlers_all, handlers_fault}
use Rattle.body_codec.proofs.decoding.handlers.read_handlers.Goals as goal

pub returns-in_err-kind-clause-fault : goal.returns-in_err-kind-clause-fault
returns-in_err-kind-clause-fault g c =
    let n = g.N.Namer in
    let names = name_map (n.owners c.args.map.now) (n.methods c.args.map.now) (n.fields c.args.map.now) (n.locals c.args.map.now) (n.texts c.args.map.now) in
    let p = err_from_is_err_and c.from_residual-in_err-kind.result c.from_residual-in_err-kind.ensures.1 in
    rw (p.1, p.2) (handlers_fault names c.args.found.now c.loop-one.clauses c.loop-one.one-index _ c.in_err-kind.field-0.0 c.loop-one.invariant c.loop-one-test.true c.in_err-kind.ensures.fault)

pub loop-one-preserved : goal.loop-one-preserved
loop-one-preserved g c =
    let n = g.N.Namer in
    let names = name_map (n.owners c.args.map.now) (n.methods c.args.map.now) (n.fields c.args.map.now) (n.locals c.args.map.now) (n.texts c.args.map.now) in
    rw c.in_ok-push.ensures.ok (handlers_more names c.args.found.now c.loop-one.clauses c.loop-one.one-index _ c.in_ok-kind.kind c.loop-one.invariant c.loop-one-test.true
    c.in_ok-kind.ensures.spelled c.in_ok-kind.ensures.caught)

pub returns-clause-spelled : goal.returns-clause-spelled
returns-clause-spelled g c =
    let n = g.N.Namer in
    let names = name_map (n.owners c.args.map.now) (n.methods c.args.map.now) (n.fields c.args.map.now) (n.locals c.args.map.now) (n.texts c.args.map.now) in
    let test = c.loop-one-test.false in
    let end = c.loop-one.auto.one-index-end in
    let all : c.loop-one.one-index ≡ length c.args.found.now = omega arith in
    handlers_all names c.args.found.now c.loop-one.clauses c.loop-one.one-index c.loop-one.invariant all c.requires
