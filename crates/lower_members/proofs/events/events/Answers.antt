use Rattle.std.proofs.Common.{◌≤◌, length, map, ap, sym, ◌∙◌, arith}
use Rattle.std.specs.Prelude.{◌==◌}
use Rattle.ilasm_grammar.specs.declared.productions.TheConstants.{EVENT, MEMBER_EVENT}
use Rattle.source_model.specs.Forest.{the}
use Rattle.source_model.specs.Members.{event, events_in}
use Rattle.source_nodes.proofs.PieceLemmas.{all_taken, part_read}
use Rattle.source_flags.proofs.Gathered.{all_at, few_below}
use Rattle.param_lines.specs.Ranged.{IsRanged}
use Rattle.lower_members.proofs.PropertyLemmas.{picked_next}
use Rattle.lower_members.proofs.events.events.Goals as goal

pub add_event-requires-clause-forest : goal.add_event-requires-clause-forest
add_event-requires-clause-forest c =
    let m = part_read c.args.nodes.now c.args.found.now c.requires.parts.0 c.loop-piece.piece-index _ c.requires.parts.1 c.loop-piece-test.true in
    (m.of.below, m.below ∙ sym c.nodes_of-below.ensures)

pub add_event-requires-clause-few : goal.add_event-requires-clause-few
add_event-requires-clause-few c = few_below c.args.nodes.now _ _ c.nodes_of-below.result.now c.nodes_of-below.ensures c.requires.few

pub loop-piece-preserved : goal.loop-piece-preserved
loop-piece-preserved c s a x ps ms e each methods few =
    let m = part_read c.args.nodes.now c.args.found.now ps c.loop-piece.piece-index _ e c.loop-piece-test.true in
    c.in_ok-add_event.ensures s a x m.of ms m.production (m.below ∙ sym c.nodes_of-below.ensures) (all_at (IsRanged s) ps c.loop-piece.piece-index m.of each m.at) methods few
    ∙ picked_next (λ p. p.production == MEMBER_EVENT) (λ p. the EVENT p.below) (event s a ms) ps c.loop-piece.piece-index m.of c.loop-piece.all m.at (c.loop-piece.invariant s a x ps ms e each methods few)

pub returns : goal.returns
returns c s a x ps ms e each methods few =
    let over : length c.args.found.now ≤ c.loop-piece.piece-index = omega (arith, c.loop-piece-test.false) in
    c.loop-piece.invariant s a x ps ms e each methods few
    ∙ ap (λ qs. map (event s a ms) (events_in qs)) (all_taken c.args.nodes.now c.args.found.now ps c.loop-piece.piece-index e over)
