use Rattle.std.proofs.Common.{[], sym, ◌∙◌}
use Rattle.source_model.specs.Instructions.{targets}
use Rattle.source_nodes.proofs.PieceLemmas.{flat_next, part_read}
use Rattle.check_bodies.proofs.branch_rules.all_targets.Goals as goal

pub push_targets-requires : goal.push_targets-requires
push_targets-requires c =
    let m = part_read c.args.nodes.now c.args.code.now c.requires.0 c.loop-piece.piece-index _ c.requires.1 c.loop-piece-test.true in
    (m.of.below, m.below ∙ sym c.nodes_of-below.ensures)

pub loop-piece-preserved : goal.loop-piece-preserved
loop-piece-preserved c ps are =
    let m = part_read c.args.nodes.now c.args.code.now ps c.loop-piece.piece-index _ are c.loop-piece-test.true in
    c.in_ok-push_targets.ensures m.of (sym m.production) (m.below ∙ sym c.nodes_of-below.ensures)
    ∙ flat_next targets ps c.loop-piece.piece-index m.of [] c.loop-piece.tokens m.at (c.loop-piece.invariant ps are)
