use Rattle.std.proofs.Common.{ℕ, sym, subst}
use Rattle.type_terms.specs.declared.reference.MethodRef.{MethodRef}
use Rattle.image_model.specs.Columns.{override_declaration}
use Rattle.image_model.specs.Reading.{MethodIs}
use Rattle.image_source.specs.Names.{names_of}
use Rattle.image_methods.proofs.Overriding.{Led, led_begin, led_on, led_end, at_row, nearer}
use Rattle.image_methods.proofs.override_rows.overrides.Goals as goal

pub loop-at-init : goal.loop-at-init
loop-at-init c =
    let image = c.args.source.now.image.now in
    subst (Led image c.args.chains.now c.args.row (λ k. MethodIs (names_of c.args.source.now.kept.now) (override_declaration image k)) c.first-at.result) (sym c.new-all.ensures)
    (led_begin image c.args.chains.now c.requires.chains c.args.row (λ k. MethodIs (names_of c.args.source.now.kept.now) (override_declaration image k)) c.first-at.result c.first-at.ensures)

pub loop-at-preserved : goal.loop-at-preserved
loop-at-preserved c =
    let image = c.args.source.now.image.now in
    let Is = λ (k : ℕ) (m : MethodRef). MethodIs (names_of c.args.source.now.kept.now) (override_declaration image k) m in
    subst (Led image c.args.chains.now c.args.row Is c.next-at.result) (sym c.in_ok-push.ensures.ok)
    (led_on image c.args.chains.now c.requires.chains c.args.row Is c.loop-at.at c.next-at.result c.loop-at.all c.in_ok-declared.declared c.loop-at-test.true c.loop-at.invariant c.in_ok-declared.ensures c.next-at.ensures)

pub returns : goal.returns
returns c =
    let image = c.args.source.now.image.now in
    led_end image c.args.chains.now c.requires.chains c.args.row (λ k. MethodIs (names_of c.args.source.now.kept.now) (override_declaration image k)) c.loop-at.at c.loop-at.all c.loop-at-test.false c.loop-at.invariant

pub declaration-requires-clause-there : goal.declaration-requires-clause-there
declaration-requires-clause-there c =
    let image = c.args.source.now.image.now in
    let r = at_row image c.args.chains.now c.requires.chains c.args.row (λ (k : ℕ) (m : MethodRef). MethodIs (names_of c.args.source.now.kept.now) (override_declaration image k) m) c.loop-at.at c.loop-at.all c.loop-at-test.true c.loop-at.invariant in
    (r.0, r.1)

pub next-at-requires-clause-there : goal.next-at-requires-clause-there
next-at-requires-clause-there c =
    let image = c.args.source.now.image.now in
    (at_row image c.args.chains.now c.requires.chains c.args.row (λ (k : ℕ) (m : MethodRef). MethodIs (names_of c.args.source.now.kept.now) (override_declaration image k) m) c.loop-at.at c.loop-at.all c.loop-at-test.true c.loop-at.invariant).2

pub loop-at-smaller : goal.loop-at-smaller
loop-at-smaller c =
    let image = c.args.source.now.image.now in
    let r = at_row image c.args.chains.now c.requires.chains c.args.row (λ (k : ℕ) (m : MethodRef). MethodIs (names_of c.args.source.now.kept.now) (override_declaration image k) m) c.loop-at.at c.loop-at.all c.loop-at-test.true c.loop-at.invariant in
    nearer image c.args.chains.now c.requires.chains c.args.row c.loop-at.at c.next-at.result c.loop-at-test.true r.2 c.next-at.ensures
