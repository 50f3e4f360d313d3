use Rattle.std.proofs.Common.{[], ◌∷◌, ◌++◌, ap, sym, ◌∙◌}
use Rattle.source_model.specs.Forest.{leaf_at}
use Rattle.source_nodes.proofs.PieceLemmas.{map_next, part_read}
use Rattle.source_nodes.proofs.pieces.leaves_at.Goals as goal

pub leaf_at-requires : goal.leaf_at-requires
leaf_at-requires c =
    let m = part_read c.args.nodes.now c.args.found.now c.requires.0 c.loop-piece.piece-index _ c.requires.1 c.loop-piece-test.true in
    (m.of.below, m.below ∙ sym c.nodes_of.ensures)

pub loop-piece-preserved : goal.loop-piece-preserved
loop-piece-preserved c ps e =
    let m = part_read c.args.nodes.now c.args.found.now ps c.loop-piece.piece-index _ e c.loop-piece-test.true in
    c.in_ok-push.ensures.ok
    ∙ ap (λ k. c.loop-piece.tokens ++ k ∷ []) (c.leaf_at.ensures m.of.below (m.below ∙ sym c.nodes_of.ensures))
    ∙ map_next (λ p. leaf_at c.args.k p.below) ps c.loop-piece.piece-index m.of c.loop-piece.tokens m.at (c.loop-piece.invariant ps e)
