use Rattle.std.proofs.Common.{[], sym, ◌∙◌}
use Rattle.source_nodes.proofs.PieceLemmas.{flat_next, part_read}
use Rattle.check_bodies.specs.NamedVariables.{name_of}
use Rattle.check_bodies.proofs.variables.name_tokens.Goals as goal

pub push_name-requires : goal.push_name-requires
push_name-requires c =
    let m = part_read c.args.nodes.now c.args.found.now c.requires.0 c.loop-piece.piece-index _ c.requires.1 c.loop-piece-test.true in
    (m.of.below, m.below ∙ sym c.nodes_of-below.ensures)

pub loop-piece-preserved : goal.loop-piece-preserved
loop-piece-preserved c ps are =
    let m = part_read c.args.nodes.now c.args.found.now ps c.loop-piece.piece-index _ are c.loop-piece-test.true in
    c.in_ok-push_name.ensures m.of.below (m.below ∙ sym c.nodes_of-below.ensures)
    ∙ flat_next (λ p. name_of p.below) ps c.loop-piece.piece-index m.of [] c.loop-piece.tokens m.at (c.loop-piece.invariant ps are)
