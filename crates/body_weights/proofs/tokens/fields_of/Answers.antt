use Rattle.std.proofs.Common.{◌≡◌, ◌≤◌, ℕ, ◌+◌, List, length, refl, ap, ◌∙◌, arith, rules}
use Rattle.image_model.specs.Rows.{count_of}
use Rattle.metadata_tables.specs.Stream.{row_count}
use Rattle.row_weights.specs.Rows.{FieldTold}
use Rattle.row_weights.proofs.Filling.{told_none, told_more, told_all, least_field}
use Rattle.body_weights.proofs.tokens.fields_of.Goals as goal

pub loop-row-init : goal.loop-row-init
loop-row-init g c =
    let count : c.rows-count.result ≡ count_of c.args.given.now.image.now 0x04 = c.rows-count.ensures.rows ∙ ap (λ (s : List ℕ). row_count s 0x04) c.tables.ensures.tables in
    let long : length c.in_ok-weights.weights.items ≡ count_of c.args.given.now.image.now 0x04 + 1 = search (rules, count) in
    told_none c.args.given.now.image.now 0x04 (FieldTold c.args.given.now.image.now 0x04) c.in_ok-weights.weights.items long

pub loop-row-preserved : goal.loop-row-preserved
loop-row-preserved g c =
    let count : c.rows-count.result ≡ count_of c.args.given.now.image.now 0x04 = c.rows-count.ensures.rows ∙ ap (λ (s : List ℕ). row_count s 0x04) c.tables.ensures.tables in
    let within : c.loop-row.row + 1 ≤ count_of c.args.given.now.image.now 0x04 = (let less = c.loop-row-test.true in omega (arith, less, count)) in
    told_more c.args.given.now.image.now 0x04 (FieldTold c.args.given.now.image.now 0x04) c.loop-row.row (c.loop-row.row + 1) c.told.result c.loop-row.weights.items refl within c.loop-row.invariant (least_field c.args.given.now.image.now 0x04 (c.loop-row.row + 1) c.field.result c.told.result c.field.ensures c.told.ensures)

pub returns : goal.returns
returns g c =
    let count : c.rows-count.result ≡ count_of c.args.given.now.image.now 0x04 = c.rows-count.ensures.rows ∙ ap (λ (s : List ℕ). row_count s 0x04) c.tables.ensures.tables in
    told_all c.args.given.now.image.now 0x04 (FieldTold c.args.given.now.image.now 0x04) c.loop-row.row c.loop-row.weights.items (let done = c.loop-row-test.false in omega (arith, done, count)) c.loop-row.invariant
