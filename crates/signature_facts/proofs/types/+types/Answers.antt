use Rattle.std.proofs.Common.{rules, sym}
use Rattle.signature_facts.specs.Scanning.{type_at, types_at}
use Rattle.signature_facts.proofs.Loops.{types_go_on}
use Rattle.signature_facts.proofs.Steps.{nothing_left, first_step}
use Rattle.signature_facts.proofs.types.+types.Goals as goal

pub type_at-returns-then-depth-eq0 : goal.type_at-returns-then-depth-eq0
type_at-returns-then-depth-eq0 g t c = sym (nothing_left (g.O.Owners.facts c.args.map.now) c.args.depth c.args.left.bytes.now c.args.left.nodes c.then-depth-eq0.either)

pub type_at-returns-in_err-byte : goal.type_at-returns-in_err-byte
type_at-returns-in_err-byte g t c =
    rw (first_step (g.O.Owners.facts c.args.map.now) c.args.depth c.args.left.bytes.now c.args.left.nodes c.if-depth-eq0.false c.if-left-eq0.false) (search rules)

pub type_at-returns-in_err-element : goal.type_at-returns-in_err-element
type_at-returns-in_err-element g t c =
    rw (first_step (g.O.Owners.facts c.args.map.now) c.args.depth c.args.left.bytes.now c.args.left.nodes c.if-depth-eq0.false c.if-left-eq0.false) (search rules)

pub type_at-returns : goal.type_at-returns
type_at-returns g t c =
    rw (first_step (g.O.Owners.facts c.args.map.now) c.args.depth c.args.left.bytes.now c.args.left.nodes c.if-depth-eq0.false c.if-left-eq0.false) (search rules)

pub types_at-loop-done-preserved : goal.types_at-loop-done-preserved
types_at-loop-done-preserved g t c =
    let sub = type_at (g.O.Owners.facts c.args.map.now) c.args.depth in
    rw c.joined-front.ensures
    (types_go_on sub c.loop-done.front c.args.count c.loop-done.done c.loop-done.left.bytes.now c.loop-done.left.nodes c.in_ok-of.of c.in_ok-of.after.bytes.now c.in_ok-of.after.nodes
    (types_at sub c.args.front c.args.count c.args.left.bytes.now c.args.left.nodes) c.loop-done-test.true (search rules) (sym c.in_ok-of.ensures) c.loop-done.invariant)
