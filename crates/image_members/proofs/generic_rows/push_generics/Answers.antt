use Rattle.std.proofs.Common.{◌≡◌, ◌∙◌, ap, sym, ◌+◌, ◌<◌, ◌≤◌, ◌∷◌, drop, drop_of_length-le, arith}
use Rattle.std.proofs.lemmas.List.{drop_more}
use Rattle.assembly_tree.specs.declared.members.Generic.{Generic}
use Rattle.image_members.proofs.GenericLemmas.{generics_begin, generics_can, number_few, generics_on, generics_end}
use Rattle.image_members.proofs.generic_rows.push_generics.Goals as goal

pub loop-generic-init : goal.loop-generic-init
loop-generic-init c = generics_begin c.args.owner c.args.refs.now c.args.rows.now c.args.generics.now c.requires

pub push_generic-requires : goal.push_generic-requires
push_generic-requires c =
    let xs = c.args.generics.now in
    let i = c.loop-generic.generic-index in
    let x = c.generic-item.result in
    let here : drop i xs ≡ x ∷ drop (i + 1) xs = drop_more xs i x (omega arith) ∙ ap (λ (y : Generic). y ∷ drop (i + 1) xs) (sym c.generic-item.is) in
    generics_can c.args.owner c.loop-generic.number c.args.refs.now c.loop-generic.refs c.args.rows.now c.loop-generic.rows xs (drop i xs) (drop (i + 1) xs) x here c.loop-generic.invariant

pub overflow_add-number : goal.overflow_add-number
overflow_add-number c =
    let xs = c.args.generics.now in
    let i = c.loop-generic.generic-index in
    let x = c.generic-item.result in
    let here : drop i xs ≡ x ∷ drop (i + 1) xs = drop_more xs i x (omega arith) ∙ ap (λ (y : Generic). y ∷ drop (i + 1) xs) (sym c.generic-item.is) in
    let few = number_few c.args.owner c.loop-generic.number c.args.refs.now c.loop-generic.refs c.args.rows.now c.loop-generic.rows xs (drop i xs) (drop (i + 1) xs) x here c.loop-generic.invariant in
    omega arith

pub loop-generic-preserved : goal.loop-generic-preserved
loop-generic-preserved c =
    let xs = c.args.generics.now in
    let i = c.loop-generic.generic-index in
    let x = c.generic-item.result in
    let here : drop i xs ≡ x ∷ drop (i + 1) xs = drop_more xs i x (omega arith) ∙ ap (λ (y : Generic). y ∷ drop (i + 1) xs) (sym c.generic-item.is) in
    generics_on c.args.owner c.loop-generic.number c.args.refs.now c.loop-generic.refs c.args.rows.now c.loop-generic.rows xs (drop i xs) (drop (i + 1) xs) x here c.loop-generic.invariant c.push_generic.new.refs c.push_generic.new.rows c.in_ok-push_generic.ensures

pub returns : goal.returns
returns c =
    let xs = c.args.generics.now in
    let i = c.loop-generic.generic-index in
    generics_end c.args.owner c.loop-generic.number c.args.refs.now c.loop-generic.refs c.args.rows.now c.loop-generic.rows xs (drop i xs) (drop_of_length-le xs {i = i} (omega arith)) c.loop-generic.invariant
