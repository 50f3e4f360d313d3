use Rattle.std.proofs.Common.{◌≡◌, ◌∙◌, ap, sym, ◌+◌, ◌≤◌, ◌∷◌, drop, drop_of_length-le, arith}
use Rattle.std.proofs.lemmas.List.{drop_more}
use Rattle.image_members.specs.declared.classes.Class.{Class}
use Rattle.image_members.proofs.DeclaringLemmas.{declares_begin, declares_plain, declares_room, declares_few, declares_on, declares_end}
use Rattle.image_members.proofs.declaring.declare_classes.Goals as goal

pub loop-class-init : goal.loop-class-init
loop-class-init c = declares_begin c.args.strings.now c.args.rows.now c.args.classes.now c.requires.room c.requires.few c.requires.plain

pub declare_type-requires-clause-plain : goal.declare_type-requires-clause-plain
declare_type-requires-clause-plain c =
    let xs = c.args.classes.now in
    let i = c.loop-class.class-index in
    let x = c.class-item.result in
    let here : drop i xs ≡ x ∷ drop (i + 1) xs = drop_more xs i x (omega arith) ∙ ap (λ (y : Class). y ∷ drop (i + 1) xs) (sym c.class-item.is) in
    declares_plain c.args.strings.now c.loop-class.strings c.args.rows.now c.loop-class.rows xs (drop i xs) (drop (i + 1) xs) x here c.loop-class.invariant

pub declare_type-requires-clause-room : goal.declare_type-requires-clause-room
declare_type-requires-clause-room c =
    let xs = c.args.classes.now in
    let i = c.loop-class.class-index in
    let x = c.class-item.result in
    let here : drop i xs ≡ x ∷ drop (i + 1) xs = drop_more xs i x (omega arith) ∙ ap (λ (y : Class). y ∷ drop (i + 1) xs) (sym c.class-item.is) in
    declares_room c.args.strings.now c.loop-class.strings c.args.rows.now c.loop-class.rows xs (drop i xs) (drop (i + 1) xs) x here c.loop-class.invariant

pub declare_type-requires-clause-few : goal.declare_type-requires-clause-few
declare_type-requires-clause-few c =
    let xs = c.args.classes.now in
    let i = c.loop-class.class-index in
    let x = c.class-item.result in
    let here : drop i xs ≡ x ∷ drop (i + 1) xs = drop_more xs i x (omega arith) ∙ ap (λ (y : Class). y ∷ drop (i + 1) xs) (sym c.class-item.is) in
    declares_few c.args.strings.now c.loop-class.strings c.args.rows.now c.loop-class.rows xs (drop i xs) (drop (i + 1) xs) x here c.loop-class.invariant

pub loop-class-preserved : goal.loop-class-preserved
loop-class-preserved c =
    let xs = c.args.classes.now in
    let i = c.loop-class.class-index in
    let x = c.class-item.result in
    let here : drop i xs ≡ x ∷ drop (i + 1) xs = drop_more xs i x (omega arith) ∙ ap (λ (y : Class). y ∷ drop (i + 1) xs) (sym c.class-item.is) in
    declares_on c.args.strings.now c.loop-class.strings c.declare_type.new.strings c.args.rows.now c.loop-class.rows c.declare_type.new.rows xs (drop i xs) (drop (i + 1) xs) x
    here c.loop-class.invariant c.in_ok-declare_type.ensures

pub returns : goal.returns
returns c =
    let xs = c.args.classes.now in
    let i = c.loop-class.class-index in
    declares_end c.args.strings.now c.loop-class.strings c.args.rows.now c.loop-class.rows xs (drop i xs) (drop_of_length-le xs {i = i} (omega arith)) c.loop-class.invariant
