use Rattle.std.proofs.Common.{◌≤◌, None, length, ap, sym, ◌∙◌, arith}
use Rattle.std.specs.Prelude.{fold}
use Rattle.source_nodes.proofs.PieceLemmas.{all_taken, part_read}
use Rattle.source_flags.proofs.Gathered.{all_at}
use Rattle.lower_members.specs.Layouts.{number_or}
use Rattle.param_lines.specs.Ranged.{IsRanged}
use Rattle.lower_members.proofs.LayoutLemmas.{fold_next}
use Rattle.lower_members.proofs.layouts.last_number.Goals as goal

pub number_or-last-requires : goal.number_or-last-requires
number_or-last-requires c =
    let m = part_read c.args.nodes.now c.args.members.now c.requires.0 c.loop-member.member-index _ c.requires.1 c.loop-member-test.true in
    (m.of.below, m.below ∙ sym c.nodes_of-below.ensures)

pub loop-member-preserved : goal.loop-member-preserved
loop-member-preserved c s ps r e each sort =
    let i = c.loop-member.member-index in
    let m = part_read c.args.nodes.now c.args.members.now ps i _ e c.loop-member-test.true in
    fold_next (number_or s c.args.production) None ps i m.of c.loop-member.last _ m.at (c.loop-member.invariant s ps r e each sort)
    (c.number_or-last.ensures s m.of r m.production (m.below ∙ sym c.nodes_of-below.ensures) (all_at (IsRanged s) ps i m.of each m.at) sort)

pub returns : goal.returns
returns c s ps r e each sort =
    let over : length c.args.members.now ≤ c.loop-member.member-index = omega (arith, c.loop-member-test.false) in
    c.loop-member.invariant s ps r e each sort
    ∙ ap (fold (number_or s c.args.production) None) (all_taken c.args.nodes.now c.args.members.now ps c.loop-member.member-index e over)
