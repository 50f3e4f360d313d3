use Rattle.std.proofs.Common.{◌≡◌, ◌∙◌, ap, sym, subst, ℕ, ◌+◌, ◌<◌, ◌≤◌, ◌∷◌, drop, drop_of_length-le, length, arith}
use Rattle.std.proofs.lemmas.List.{drop_more}
use Rattle.image_members.specs.DeclaredMembers.{class_fields}
use Rattle.image_members.specs.declared.classes.Class.{Class}
use Rattle.image_rows.proofs.TypeRowLemmas.{TypesTo, types_begin, types_stand, types_base, types_few, types_room, types_on, types_end}
use Rattle.image_rows.proofs.type_rows.push_types.Goals as goal

pub loop-class-init : goal.loop-class-init
loop-class-init c =
    types_begin c.args.counts.fields c.args.counts.methods c.args.first.field c.args.first.method c.args.refs.now c.args.rows.now c.args.classes.now c.requires.known c.requires.declared c.requires.bases
    c.requires.few c.requires.room c.requires.count c.requires.fields c.requires.methods

pub push_type-requires-clause-known : goal.push_type-requires-clause-known
push_type-requires-clause-known c = c.loop-class.invariant.known

pub push_type-requires-clause-stands : goal.push_type-requires-clause-stands
push_type-requires-clause-stands c =
    let xs = c.args.classes.now in
    let i = c.loop-class.class-index in
    let x = c.class-item.result in
    let here : drop i xs ≡ x ∷ drop (i + 1) xs = drop_more xs i x (omega arith) ∙ ap (λ (y : Class). y ∷ drop (i + 1) xs) (sym c.class-item.is) in
    types_stand c.args.counts.fields c.args.counts.methods c.args.first.field c.args.first.method c.args.refs.now c.loop-class.refs c.args.rows.now c.loop-class.rows c.loop-class.place c.loop-class.field c.loop-class.method xs (drop i xs) (drop (i + 1) xs) x here c.loop-class.invariant

pub push_type-requires-clause-base : goal.push_type-requires-clause-base
push_type-requires-clause-base c =
    let xs = c.args.classes.now in
    let i = c.loop-class.class-index in
    let x = c.class-item.result in
    let here : drop i xs ≡ x ∷ drop (i + 1) xs = drop_more xs i x (omega arith) ∙ ap (λ (y : Class). y ∷ drop (i + 1) xs) (sym c.class-item.is) in
    types_base c.args.counts.fields c.args.counts.methods c.args.first.field c.args.first.method c.args.refs.now c.loop-class.refs c.args.rows.now c.loop-class.rows c.loop-class.place c.loop-class.field c.loop-class.method xs (drop i xs) (drop (i + 1) xs) x here c.loop-class.invariant

pub push_type-requires-clause-few : goal.push_type-requires-clause-few
push_type-requires-clause-few c =
    let xs = c.args.classes.now in
    let i = c.loop-class.class-index in
    let x = c.class-item.result in
    let here : drop i xs ≡ x ∷ drop (i + 1) xs = drop_more xs i x (omega arith) ∙ ap (λ (y : Class). y ∷ drop (i + 1) xs) (sym c.class-item.is) in
    types_few c.args.counts.fields c.args.counts.methods c.args.first.field c.args.first.method c.args.refs.now c.loop-class.refs c.args.rows.now c.loop-class.rows c.loop-class.place c.loop-class.field c.loop-class.method xs (drop i xs) (drop (i + 1) xs) x here c.loop-class.invariant

pub push_type-requires-clause-room : goal.push_type-requires-clause-room
push_type-requires-clause-room c =
    let xs = c.args.classes.now in
    let i = c.loop-class.class-index in
    let x = c.class-item.result in
    let here : drop i xs ≡ x ∷ drop (i + 1) xs = drop_more xs i x (omega arith) ∙ ap (λ (y : Class). y ∷ drop (i + 1) xs) (sym c.class-item.is) in
    types_room c.args.counts.fields c.args.counts.methods c.args.first.field c.args.first.method c.args.refs.now c.loop-class.refs c.args.rows.now c.loop-class.rows c.loop-class.place c.loop-class.field c.loop-class.method xs (drop i xs) (drop (i + 1) xs) x here c.loop-class.invariant

pub loop-class-preserved : goal.loop-class-preserved
loop-class-preserved c =
    let xs = c.args.classes.now in
    let i = c.loop-class.class-index in
    let x = c.class-item.result in
    let here : drop i xs ≡ x ∷ drop (i + 1) xs = drop_more xs i x (omega arith) ∙ ap (λ (y : Class). y ∷ drop (i + 1) xs) (sym c.class-item.is) in
    let on = types_on c.args.counts.fields c.args.counts.methods c.args.first.field c.args.first.method c.args.refs.now c.loop-class.refs c.args.rows.now c.loop-class.rows c.loop-class.place c.loop-class.field c.loop-class.method xs (drop i xs) (drop (i + 1) xs) x here c.loop-class.invariant c.push_type.new.refs c.push_type.new.rows c.in_ok-push_type.ensures in
    subst (λ (n : ℕ). TypesTo c.args.counts.fields c.args.counts.methods c.args.first.field c.args.first.method c.args.refs.now c.push_type.new.refs c.args.rows.now c.push_type.new.rows (c.loop-class.place + 1) (c.loop-class.field + n) (c.loop-class.method + c.len-in-loop-class.result) xs (drop (i + 1) xs)) (sym c.len.ensures)
    (subst (λ (n : ℕ). TypesTo c.args.counts.fields c.args.counts.methods c.args.first.field c.args.first.method c.args.refs.now c.push_type.new.refs c.args.rows.now c.push_type.new.rows (c.loop-class.place + 1) (c.loop-class.field + length (class_fields x)) (c.loop-class.method + n) xs (drop (i + 1) xs)) (sym c.len-in-loop-class.ensures) on)

pub returns : goal.returns
returns c =
    let xs = c.args.classes.now in
    let i = c.loop-class.class-index in
    types_end c.args.counts.fields c.args.counts.methods c.args.first.field c.args.first.method c.args.refs.now c.loop-class.refs c.args.rows.now c.loop-class.rows c.loop-class.place c.loop-class.field c.loop-class.method
    xs (drop i xs) (drop_of_length-le xs {i = i} (omega arith)) c.loop-class.invariant
