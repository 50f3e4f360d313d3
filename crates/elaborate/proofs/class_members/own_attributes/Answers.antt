use Rattle.std.proofs.Common.{false, ap, sym, subst, ◌∙◌}
use Rattle.source_model.specs.Items.{members, own_customs}
use Rattle.source_nodes.specs.Pieces.{ArePieces}
use Rattle.source_model.specs.Manifests.{attributes}
use Rattle.lower_manifest.specs.Runs.{is_custom}
use Rattle.lower_manifest.proofs.CustomParts.{outside_hold}
use Rattle.elaborate.proofs.ClassLemmas.{members_ranged, no_customs, same_any}
use Rattle.elaborate.proofs.class_members.own_attributes.Goals as goal

pub attributes-requires-clause-parts : goal.attributes-requires-clause-parts
attributes-requires-clause-parts c =
    let nodes = c.args.nodes.now in
    let ps = c.requires.parts.0 in
    (own_customs ps, subst (λ xs. ArePieces nodes xs (own_customs ps)) (sym c.as_slice.ensures) (c.in_ok-own.ensures nodes ps c.requires.parts.1))

pub returns : goal.returns
returns c s a x f each are =
    let nodes = c.args.nodes.now in
    let ps = members f in
    c.attributes.ensures s a x (own_customs ps) (subst (λ xs. ArePieces nodes xs (own_customs ps)) (sym c.as_slice.ensures) (c.in_ok-own.ensures nodes ps are))
    (outside_hold s false ps (members_ranged s f each))

pub returns-then-not-has_customs : goal.returns-then-not-has_customs
returns-then-not-has_customs c s a x f each are =
    let same = same_any is_custom c.args.nodes.now c.args.found.now (members f) are in
    let none = no_customs false (members f) (sym same ∙ sym c.has_customs.ensures ∙ c.if-not-has_customs.true) in
    c.new.ensures ∙ sym (ap (attributes s a) none)
