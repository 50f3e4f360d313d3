use Rattle.std.proofs.Common.{rules}
use Rattle.signature_tokens.specs.Collecting.{type_at, types_at}
use Rattle.signature_tokens.proofs.Loops.{types_go_on, nothing_left, first_step}
use Rattle.signature_tokens.proofs.types.+types.Goals as goal

pub type_at-returns-then-depth-eq0 : goal.type_at-returns-then-depth-eq0
type_at-returns-then-depth-eq0 t c = nothing_left c.args.depth c.args.into.now c.args.bytes.now c.if-depth-eq0.true

pub type_at-returns-in_err-byte : goal.type_at-returns-in_err-byte
type_at-returns-in_err-byte t c = rw (first_step c.args.depth c.args.into.now c.args.bytes.now c.if-depth-eq0.false) (search rules)

pub type_at-returns-in_err-element : goal.type_at-returns-in_err-element
type_at-returns-in_err-element t c = rw (first_step c.args.depth c.args.into.now c.args.bytes.now c.if-depth-eq0.false) (search rules)

pub type_at-returns : goal.type_at-returns
type_at-returns t c = rw (first_step c.args.depth c.args.into.now c.args.bytes.now c.if-depth-eq0.false) (search rules)

pub types_at-loop-preserved : goal.types_at-loop-preserved
types_at-loop-preserved t c =
    let sub = type_at c.args.depth in
    types_go_on sub c.args.count c.loop.counter c.loop.into c.loop.rest.now c.type_at.new.into c.in_ok-rest.rest.now (types_at sub c.args.count c.args.into.now c.args.bytes.now)
    c.loop-test.true (rw c.behind_sentinel.ensures at c.in_ok-rest.ensures) c.loop.invariant
