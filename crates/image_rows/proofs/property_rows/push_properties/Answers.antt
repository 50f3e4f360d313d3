use Rattle.std.proofs.Common.{◌≡◌, ◌∙◌, ap, sym, ◌+◌, ◌≤◌, [], ◌∷◌, drop, drop_of_length-le, arith}
use Rattle.std.specs.Borrow.{Bor}
use Rattle.std.proofs.lemmas.List.{drop_more}
use Rattle.assembly_tree.specs.declared.members.Property.{Property}
use Rattle.image_members.specs.Places.{lent}
use Rattle.image_members.proofs.KindLemmas.{begin, front, go_on, end}
use Rattle.image_rows.proofs.PropertyLemmas.{property_kind}
use Rattle.image_rows.proofs.property_rows.push_properties.Goals as goal

pub loop-property-init : goal.loop-property-init
loop-property-init c = begin property_kind c.args.refs.now c.args.rows.now (lent c.args.properties.now) c.requires

pub push_property-requires : goal.push_property-requires
push_property-requires c =
    let xs = c.args.properties.now in
    let i = c.loop-property.property-index in
    let x = c.property-item.result in
    let here : drop i xs ≡ x ∷ drop (i + 1) xs = drop_more xs i x (omega arith) ∙ ap (λ (y : Bor Property). y ∷ drop (i + 1) xs) (sym c.property-item.is) in
    let items : lent (drop i xs) ≡ x.now ∷ lent (drop (i + 1) xs) = ap (lent {X = Property}) here in
    front property_kind c.args.refs.now c.loop-property.refs c.args.rows.now c.loop-property.rows (lent xs) (lent (drop i xs)) (x.now ∷ []) (lent (drop (i + 1) xs)) items c.loop-property.invariant

pub loop-property-preserved : goal.loop-property-preserved
loop-property-preserved c =
    let xs = c.args.properties.now in
    let i = c.loop-property.property-index in
    let x = c.property-item.result in
    let here : drop i xs ≡ x ∷ drop (i + 1) xs = drop_more xs i x (omega arith) ∙ ap (λ (y : Bor Property). y ∷ drop (i + 1) xs) (sym c.property-item.is) in
    let items : lent (drop i xs) ≡ x.now ∷ lent (drop (i + 1) xs) = ap (lent {X = Property}) here in
    go_on property_kind c.args.refs.now c.loop-property.refs c.push_property.new.refs c.args.rows.now c.loop-property.rows c.push_property.new.rows (lent xs) (lent (drop i xs)) (x.now ∷ []) (lent (drop (i + 1) xs)) items
    c.loop-property.invariant c.in_ok-push_property.ensures

pub returns : goal.returns
returns c =
    let xs = c.args.properties.now in
    let i = c.loop-property.property-index in
    end property_kind c.args.refs.now c.loop-property.refs c.args.rows.now c.loop-property.rows (lent xs) (lent (drop i xs)) (ap (lent {X = Property}) (drop_of_length-le xs {i = i} (omega arith))) c.loop-property.invariant
