use Rattle.std.proofs.Common.{rules, sym}
use Rattle.signature_equality.specs.Walking.{same_type, same_types}
use Rattle.signature_equality.proofs.Loops.{types_go_on, nothing_left, first_step}
use Rattle.signature_equality.proofs.types.+types.Goals as goal

pub same_type-returns-then-depth-eq0 : goal.same_type-returns-then-depth-eq0
same_type-returns-then-depth-eq0 g t c = sym (nothing_left (g.N.Numbering.canon c.args.numbers.now) c.args.depth (c.args.at.a.now, c.args.at.b.now) c.if-depth-eq0.true)

pub same_type-returns-in_err-byte : goal.same_type-returns-in_err-byte
same_type-returns-in_err-byte g t c =
    rw (first_step (g.N.Numbering.canon c.args.numbers.now) c.args.depth (c.args.at.a.now, c.args.at.b.now) c.if-depth-eq0.false) (search rules)

pub same_type-returns-in_err-other : goal.same_type-returns-in_err-other
same_type-returns-in_err-other g t c =
    rw (first_step (g.N.Numbering.canon c.args.numbers.now) c.args.depth (c.args.at.a.now, c.args.at.b.now) c.if-depth-eq0.false) (search rules)

pub same_type-returns-then-byte-other : goal.same_type-returns-then-byte-other
same_type-returns-then-byte-other g t c =
    rw (first_step (g.N.Numbering.canon c.args.numbers.now) c.args.depth (c.args.at.a.now, c.args.at.b.now) c.if-depth-eq0.false) (search rules)

pub same_type-returns-in_err-of : goal.same_type-returns-in_err-of
same_type-returns-in_err-of g t c =
    rw (first_step (g.N.Numbering.canon c.args.numbers.now) c.args.depth (c.args.at.a.now, c.args.at.b.now) c.if-depth-eq0.false) (search rules)

pub same_type-returns : goal.same_type-returns
same_type-returns g t c =
    rw (first_step (g.N.Numbering.canon c.args.numbers.now) c.args.depth (c.args.at.a.now, c.args.at.b.now) c.if-depth-eq0.false) (search rules)

pub same_types-loop-done-preserved : goal.same_types-loop-done-preserved
same_types-loop-done-preserved g t c =
    let walk = same_type (g.N.Numbering.canon c.args.numbers.now) c.args.depth in
    types_go_on walk c.args.count c.loop-done.done (c.loop-done.at.a.now, c.loop-done.at.b.now) (c.in_ok-at.at.a.now, c.in_ok-at.at.b.now)
    (same_types walk c.args.count (c.args.at.a.now, c.args.at.b.now)) c.loop-done-test.true (search rules) (search rules) (sym c.in_ok-at.ensures) c.loop-done.invariant
