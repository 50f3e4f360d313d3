use Rattle.std.proofs.Common.{◌≡◌, ◌≤◌, ℕ, ◌+◌, ◌-◌, List, length, refl, ap, subst, ◌∙◌, arith, rules}
use Rattle.image_model.specs.Rows.{count_of}
use Rattle.metadata_tables.specs.Stream.{row_count}
use Rattle.row_weights.proofs.Filling.{told_none, told_more, told_all}
use Rattle.body_weights.specs.Bodies.{BodyAtTold, AreSeen}
use Rattle.body_weights.proofs.Seeing.{seen_none, tell_to}
use Rattle.body_weights.proofs.bodies.bodies_of.Goals as goal

pub loop-row-init : goal.loop-row-init
loop-row-init g c =
    let count : c.rows-count.result ≡ count_of c.args.image.now 0x06 = c.rows-count.ensures.rows ∙ ap (λ (s : List ℕ). row_count s 0x06) c.tables.ensures.tables in
    let long : length c.in_ok-weights.weights.items ≡ count_of c.args.image.now 0x06 + 1 = search (rules, count) in (
      told_none c.args.image.now 0x06 (BodyAtTold c.args.image.now) c.in_ok-weights.weights.items long,
      seen_none c.args.image.now c.new-seen.result c.new-seen.ensures,
    )

pub body_at-requires-clause-there : goal.body_at-requires-clause-there
body_at-requires-clause-there g c =
    let count : c.rows-count.result ≡ count_of c.args.image.now 0x06 = c.rows-count.ensures.rows ∙ ap (λ (s : List ℕ). row_count s 0x06) c.tables.ensures.tables in
    let less = c.loop-row-test.true in
    (omega arith, omega (arith, less, count))

pub body_at-requires-clause-above : goal.body_at-requires-clause-above
body_at-requires-clause-above g c = rw c.as_slice.ensures.value (tell_to c.args.image.now (c.loop-row.row + 1) c.loop-row.row c.loop-row.weights.items (omega arith) c.loop-row.invariant.0)

pub body_at-requires-clause-seen : goal.body_at-requires-clause-seen
body_at-requires-clause-seen g c =
    let e : c.loop-row.row ≡ c.loop-row.row + 1 - 1 = omega arith in
    subst (λ (n : ℕ). AreSeen c.args.image.now n c.loop-row.seen) e c.loop-row.invariant.1

pub loop-row-preserved : goal.loop-row-preserved
loop-row-preserved g c =
    let count : c.rows-count.result ≡ count_of c.args.image.now 0x06 = c.rows-count.ensures.rows ∙ ap (λ (s : List ℕ). row_count s 0x06) c.tables.ensures.tables in
    let within : c.loop-row.row + 1 ≤ count_of c.args.image.now 0x06 = (let less = c.loop-row-test.true in omega (arith, less, count)) in (
      told_more c.args.image.now 0x06 (BodyAtTold c.args.image.now) c.loop-row.row (c.loop-row.row + 1) c.in_ok-weight.weight c.loop-row.weights.items refl within c.loop-row.invariant.0 c.in_ok-weight.ensures.told,
      c.in_ok-weight.ensures.seen,
    )

pub returns : goal.returns
returns g c =
    let count : c.rows-count.result ≡ count_of c.args.image.now 0x06 = c.rows-count.ensures.rows ∙ ap (λ (s : List ℕ). row_count s 0x06) c.tables.ensures.tables in
    told_all c.args.image.now 0x06 (BodyAtTold c.args.image.now) c.loop-row.row c.loop-row.weights.items (let done = c.loop-row-test.false in omega (arith, done, count)) c.loop-row.invariant.0
