use Rattle.std.proofs.Common.{◌≤◌, length, ap, sym, ◌∙◌, arith}
use Rattle.source_model.specs.Members.{methods}
use Rattle.source_nodes.proofs.PieceLemmas.{all_taken, part_read}
use Rattle.source_flags.proofs.Gathered.{all_at, few_below}
use Rattle.lower_methods.specs.SoundMethods.{IsWholePart}
use Rattle.lower_methods.proofs.MethodLemmas.{picked_next}
use Rattle.lower_methods.proofs.method_lists.methods.Goals as goal

pub add_method-requires-clause-forest : goal.add_method-requires-clause-forest
add_method-requires-clause-forest c =
    let m = part_read c.args.nodes.now c.args.found.now c.requires.parts.0 c.loop-piece.piece-index _ c.requires.parts.1 c.loop-piece-test.true in
    (m.of.below, m.below ∙ sym c.nodes_of-below.ensures)

pub add_method-requires-clause-few : goal.add_method-requires-clause-few
add_method-requires-clause-few c = few_below c.args.nodes.now _ _ c.nodes_of-below.result.now c.nodes_of-below.ensures c.requires.few

pub loop-piece-preserved : goal.loop-piece-preserved
loop-piece-preserved c s a x ps e each =
    let m = part_read c.args.nodes.now c.args.found.now ps c.loop-piece.piece-index _ e c.loop-piece-test.true in
    c.in_ok-add_method.ensures s a x m.of m.production (m.below ∙ sym c.nodes_of-below.ensures) (all_at (IsWholePart s) ps c.loop-piece.piece-index m.of each m.at)
    ∙ picked_next s a ps c.loop-piece.piece-index m.of c.loop-piece.all m.at (c.loop-piece.invariant s a x ps e each)

pub returns : goal.returns
returns c s a x ps e each =
    let over : length c.args.found.now ≤ c.loop-piece.piece-index = omega (arith, c.loop-piece-test.false) in
    c.loop-piece.invariant s a x ps e each ∙ ap (methods s a) (all_taken c.args.nodes.now c.args.found.now ps c.loop-piece.piece-index e over)
