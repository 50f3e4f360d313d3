use Rattle.std.proofs.Common.{◌≡◌, ℕ, ◌+◌, ap, subst, ◌∙◌, arith}
use Rattle.metadata_tables.specs.Stream.{row_count}
use Rattle.image_model.specs.Rows.{count_of}
use Rattle.image_methods.proofs.Overriding.{AreSoFar, begun, pushed, all_so}
use Rattle.image_methods.proofs.override_rows.overriders.Goals as goal

pub loop-row-init : goal.loop-row-init
loop-row-init c = begun c.args.image.now c.in_ok-bodies.bodies c.in_ok-bodies.ensures

pub overrider-requires-clause-own : goal.overrider-requires-clause-own
overrider-requires-clause-own c =
    let end : c.rows-row-end.result ≡ count_of c.args.image.now 0x19 = c.rows-row-end.ensures.rows ∙ ap (λ stream. row_count stream 0x19) c.tables.ensures.tables in
    let t = c.loop-row-test.true in
    c.requires (c.loop-row.row + 1) (omega arith, omega (arith, end, t))

pub loop-row-preserved : goal.loop-row-preserved
loop-row-preserved c = pushed c.args.image.now c.loop-row.bodies c.push.new.self c.loop-row.row c.overrider.result c.in_ok-push.ensures.ok c.loop-row.invariant c.overrider.ensures

pub returns : goal.returns
returns c =
    let end : c.rows-row-end.result ≡ count_of c.args.image.now 0x19 = c.rows-row-end.ensures.rows ∙ ap (λ stream. row_count stream 0x19) c.tables.ensures.tables in
    let all : c.loop-row.row ≡ count_of c.args.image.now 0x19 = let t = c.loop-row-test.false in let a = c.loop-row.auto.row-end in omega arith in
    all_so c.args.image.now c.loop-row.bodies (subst (λ (upto : ℕ). AreSoFar c.args.image.now c.loop-row.bodies upto) all c.loop-row.invariant)
