use Rattle.std.proofs.Common.{[], sym, subst, ◌∙◌}
use Rattle.source_model.specs.BodyFaults.{label_names_in}
use Rattle.source_model.specs.Forest.{parts}
use Rattle.source_nodes.specs.Pieces.{ArePieces, productions_of}
use Rattle.source_nodes.specs.declared.pieces.Sought.TheVariants.{LabelNames}
use Rattle.source_nodes.proofs.PieceLemmas.{flat_next, part_read}
use Rattle.source_syntax.proofs.labels.label_names.Goals as goal

pub push_label_names-requires : goal.push_label_names-requires
push_label_names-requires c =
    let found = c.as_slice-piece-items.result.now in
    let ps = parts (productions_of LabelNames) c.requires.0 in
    let are : ArePieces c.args.nodes.now found ps =
    subst (λ xs. ArePieces c.args.nodes.now xs ps) (sym c.as_slice-piece-items.ensures) (c.in_ok-found.ensures c.requires.0 c.requires.1) in
    let m = part_read c.args.nodes.now found ps c.loop-piece.piece-index _ are c.loop-piece-test.true in
    (m.of.below, m.below ∙ sym c.nodes_of-below.ensures)

pub loop-piece-preserved : goal.loop-piece-preserved
loop-piece-preserved c ps are =
    let m = part_read c.args.nodes.now c.as_slice-piece-items.result.now ps c.loop-piece.piece-index _ are c.loop-piece-test.true in
    c.in_ok-push_label_names.ensures m.of (sym m.production) (m.below ∙ sym c.nodes_of-below.ensures)
    ∙ flat_next label_names_in ps c.loop-piece.piece-index m.of [] c.loop-piece.tokens m.at (c.loop-piece.invariant ps are)
