use Rattle.std.proofs.Common.{◌≡◌, ◌∙◌, ap, sym, ℕ, ◌+◌, ◌≤◌, List, [], ◌∷◌, drop, drop_of_length-le, map, arith}
use Rattle.std.proofs.lemmas.List.{drop_more}
use Rattle.assembly_tree.specs.declared.members.Attribute.{Attribute}
use Rattle.image_rows.specs.AttributeRows.{attributes_with}
use Rattle.image_members.proofs.KindLemmas.{begin, front, go_on, end}
use Rattle.image_rows.proofs.AttributeLemmas.{attribute_kind}
use Rattle.image_rows.proofs.attribute_rows.push_attributes.Goals as goal

pub loop-attribute-init : goal.loop-attribute-init
loop-attribute-init c = begin attribute_kind c.args.refs.now c.args.rows.now (attributes_with c.args.parent c.args.attributes.now) c.requires

pub push_attribute-requires : goal.push_attribute-requires
push_attribute-requires c =
    let xs = c.args.attributes.now in
    let i = c.loop-attribute.attribute-index in
    let x = c.attribute-item.result in
    let here : drop i xs ≡ x ∷ drop (i + 1) xs = drop_more xs i x (omega arith) ∙ ap (λ (y : Attribute). y ∷ drop (i + 1) xs) (sym c.attribute-item.is) in
    front attribute_kind c.args.refs.now c.loop-attribute.refs c.args.rows.now c.loop-attribute.rows (attributes_with c.args.parent xs) (attributes_with c.args.parent (drop i xs)) (attributes_with c.args.parent (x ∷ [])) (attributes_with c.args.parent (drop (i + 1) xs)) (ap (attributes_with c.args.parent) here) c.loop-attribute.invariant

pub loop-attribute-preserved : goal.loop-attribute-preserved
loop-attribute-preserved c =
    let xs = c.args.attributes.now in
    let i = c.loop-attribute.attribute-index in
    let x = c.attribute-item.result in
    let here : drop i xs ≡ x ∷ drop (i + 1) xs = drop_more xs i x (omega arith) ∙ ap (λ (y : Attribute). y ∷ drop (i + 1) xs) (sym c.attribute-item.is) in
    go_on attribute_kind c.args.refs.now c.loop-attribute.refs c.push_attribute.new.refs c.args.rows.now c.loop-attribute.rows c.push_attribute.new.rows (attributes_with c.args.parent xs) (attributes_with c.args.parent (drop i xs)) (attributes_with c.args.parent (x ∷ [])) (attributes_with c.args.parent (drop (i + 1) xs)) (ap (attributes_with c.args.parent) here)
    c.loop-attribute.invariant c.in_ok-push_attribute.ensures

pub returns : goal.returns
returns c =
    let xs = c.args.attributes.now in
    let i = c.loop-attribute.attribute-index in
    end attribute_kind c.args.refs.now c.loop-attribute.refs c.args.rows.now c.loop-attribute.rows (attributes_with c.args.parent xs) (attributes_with c.args.parent (drop i xs)) (ap (attributes_with c.args.parent) (drop_of_length-le xs {i = i} (omega arith))) c.loop-attribute.invariant
