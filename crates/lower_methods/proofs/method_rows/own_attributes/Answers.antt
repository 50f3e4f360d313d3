use Rattle.std.proofs.Common.{sym, subst}
use Rattle.std.specs.Prelude.{false}
use Rattle.source_model.specs.Items.{items_and_ends, own_customs}
use Rattle.source_nodes.specs.Pieces.{ArePieces}
use Rattle.lower_members.proofs.ItemEnds.{items_ranged, outside_items}
use Rattle.lower_methods.proofs.method_rows.own_attributes.Goals as goal

pub attributes-requires-clause-parts : goal.attributes-requires-clause-parts
attributes-requires-clause-parts c =
    let nodes = c.args.nodes.now in
    let ps = c.requires.parts.0 in
    (own_customs ps, subst (λ xs. ArePieces nodes xs (own_customs ps)) (sym c.as_slice.ensures) (c.in_ok-own.ensures nodes ps c.requires.parts.1))

pub returns : goal.returns
returns c s a x f each are =
    let nodes = c.args.nodes.now in
    let ps = items_and_ends f in
    c.attributes.ensures s a x (own_customs ps) (subst (λ xs. ArePieces nodes xs (own_customs ps)) (sym c.as_slice.ensures) (c.in_ok-own.ensures nodes ps are))
    (outside_items s false ps (items_ranged s f each))
