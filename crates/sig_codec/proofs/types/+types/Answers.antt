use Rattle.std.proofs.Common.{rules}
use Rattle.sig_codec.specs.Reading.{type_at, types_at}
use Rattle.sig_codec.proofs.Loop.{types_go_on}
use Rattle.sig_codec.proofs.Steps.{nothing_left, first_step}
use Rattle.sig_codec.proofs.types.+types.Goals as goal

pub type_at-returns-then-depth-eq0 : goal.type_at-returns-then-depth-eq0
type_at-returns-then-depth-eq0 g t c = nothing_left _ _ _ _ c.then-depth-eq0.either

pub type_at-returns-in_err-byte : goal.type_at-returns-in_err-byte
type_at-returns-in_err-byte g t c =
    rw (first_step (g.N.Namer.owners c.args.names.now) c.args.depth c.args.left.bytes.now c.args.left.nodes c.if-depth-eq0.false c.if-left-eq0.false) (search rules)

pub type_at-returns-in_err-element : goal.type_at-returns-in_err-element
type_at-returns-in_err-element g t c =
    rw (first_step (g.N.Namer.owners c.args.names.now) c.args.depth c.args.left.bytes.now c.args.left.nodes c.if-depth-eq0.false c.if-left-eq0.false) (search rules)

pub type_at-returns : goal.type_at-returns
type_at-returns g t c =
    rw (first_step (g.N.Namer.owners c.args.names.now) c.args.depth c.args.left.bytes.now c.args.left.nodes c.if-depth-eq0.false c.if-left-eq0.false) (search rules)

pub types_at-loop-preserved : goal.types_at-loop-preserved
types_at-loop-preserved g t c =
    let sub = type_at (g.N.Namer.owners c.args.names.now) c.args.depth in
    rw c.in_ok-push.ensures.ok
    (types_go_on sub c.loop.types c.args.count c.loop.counter c.loop.left.bytes.now c.loop.left.nodes c.in_ok-of.of c.in_ok-of.after.bytes.now c.in_ok-of.after.nodes
    (types_at sub c.args.count c.args.left.bytes.now c.args.left.nodes) c.loop-test.true (search rules) c.in_ok-of.ensures c.loop.invariant)
