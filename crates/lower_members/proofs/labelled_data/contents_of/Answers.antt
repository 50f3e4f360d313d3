use Rattle.std.proofs.Common.{◌≤◌, [], length, ap, sym, ◌∙◌, arith}
use Rattle.std.specs.List.{flat_map}
use Rattle.source_flags.specs.InRange.{AllInRange}
use Rattle.source_flags.proofs.Gathered.{all_at}
use Rattle.source_nodes.proofs.PieceLemmas.{all_taken, flat_next, part_read}
use Rattle.lower_members.specs.Runs.{bytes_of_each}
use Rattle.lower_members.proofs.LabelledLemmas.{chosen_bytes, labelled_bytes}
use Rattle.lower_members.proofs.labelled_data.contents_of.Goals as goal

pub push_labelled-requires : goal.push_labelled-requires
push_labelled-requires c =
    let m = part_read c.args.reader.now.nodes.now c.args.all.now c.requires.0 c.loop-piece.piece-index _ c.requires.1 c.loop-piece-test.true in
    (m.of.below, m.below ∙ sym c.nodes_of.ensures)

pub loop-piece-preserved : goal.loop-piece-preserved
loop-piece-preserved c s ps r e each =
    let i = c.loop-piece.piece-index in
    let m = part_read c.args.reader.now.nodes.now c.args.all.now ps i _ e c.loop-piece-test.true in
    c.in_ok-push_labelled.ensures s m.of.below r (m.below ∙ sym c.nodes_of.ensures) (all_at (λ p. AllInRange s p.below) ps i m.of each m.at)
    ∙ flat_next (labelled_bytes s) ps i m.of [] (bytes_of_each c.loop-piece.contents) m.at (c.loop-piece.invariant s ps r e each)

pub returns : goal.returns
returns c s ps r e each =
    let over : length c.args.all.now ≤ c.loop-piece.piece-index = omega (arith, c.loop-piece-test.false) in
    c.loop-piece.invariant s ps r e each
    ∙ ap (flat_map (labelled_bytes s)) (all_taken c.args.reader.now.nodes.now c.args.all.now ps c.loop-piece.piece-index e over)
    ∙ chosen_bytes s ps
