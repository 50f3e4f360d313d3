use Rattle.std.proofs.Common.{◌≤◌, [], ◌∷◌, ◌++◌, length, map, ap, sym, ◌∙◌, arith}
use Rattle.source_model.specs.Manifests.{attribute}
use Rattle.source_nodes.proofs.PieceLemmas.{all_taken, map_next, part_read}
use Rattle.lower_manifest.specs.Customs.{IsCustom}
use Rattle.source_flags.proofs.Gathered.{all_at, few_below}
use Rattle.lower_manifest.proofs.attributes.attributes.Goals as goal

pub attribute-requires-clause-forest : goal.attribute-requires-clause-forest
attribute-requires-clause-forest c =
    let m = part_read c.args.nodes.now c.args.found.now c.requires.parts.0 c.loop-piece.piece-index _ c.requires.parts.1 c.loop-piece-test.true in
    (m.of.below, m.below ∙ sym c.nodes_of.ensures)

pub attribute-requires-clause-few : goal.attribute-requires-clause-few
attribute-requires-clause-few c = few_below c.args.nodes.now _ _ c.nodes_of.result.now c.nodes_of.ensures c.requires.few

pub loop-piece-preserved : goal.loop-piece-preserved
loop-piece-preserved c s a x ps e each =
    let m = part_read c.args.nodes.now c.args.found.now ps c.loop-piece.piece-index _ e c.loop-piece-test.true in
    c.in_ok-push.ensures.ok
    ∙ ap (λ k. c.loop-piece.all ++ k ∷ [])
    (c.in_ok-one.ensures s a x m.of.below (m.below ∙ sym c.nodes_of.ensures) (all_at (IsCustom s) ps c.loop-piece.piece-index m.of each m.at))
    ∙ map_next (λ p. attribute s a p.below) ps c.loop-piece.piece-index m.of c.loop-piece.all m.at (c.loop-piece.invariant s a x ps e each)

pub returns : goal.returns
returns c s a x ps e each =
    let over : length c.args.found.now ≤ c.loop-piece.piece-index = omega (arith, c.loop-piece-test.false) in
    c.loop-piece.invariant s a x ps e each
    ∙ ap (map (λ p. attribute s a p.below)) (all_taken c.args.nodes.now c.args.found.now ps c.loop-piece.piece-index e over)
