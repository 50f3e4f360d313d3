use Rattle.std.proofs.Common.{◌≤◌, [], ◌∷◌, ◌++◌, length, map, ap, sym, ◌∙◌, arith}
use Rattle.ilasm_grammar.specs.declared.productions.TheConstants.{LOCAL}
use Rattle.source_model.specs.Forest.{parts}
use Rattle.source_model.specs.Types.{the_type}
use Rattle.source_nodes.proofs.PieceLemmas.{all_taken, map_next, mapped_below, part_read}
use Rattle.source_flags.specs.InRange.{IsInRange}
use Rattle.source_flags.proofs.Gathered.{IsSought, all_at, of_parts, readable}
use Rattle.lower_bodies.proofs.locals.local_types.Goals as goal

pub first_type-requires : goal.first_type-requires
first_type-requires c =
    let m = part_read c.args.nodes.now c.args.found.now c.requires.0 c.loop-piece.piece-index _ c.requires.1 c.loop-piece-test.true in
    (m.of.below, m.below ∙ sym c.nodes_of.ensures)

pub loop-piece-preserved : goal.loop-piece-preserved
loop-piece-preserved c s a f x h are =
    let ps = parts (LOCAL ∷ []) f in
    let i = c.loop-piece.piece-index in
    let m = part_read c.args.nodes.now c.args.found.now ps i _ are c.loop-piece-test.true in
    let own = all_at (IsSought (IsInRange s) (LOCAL ∷ [])) ps i m.of (of_parts (IsInRange s) (LOCAL ∷ []) f h) m.at in
    c.in_ok-push.ensures.ok
    ∙ ap (λ k. c.loop-piece.all ++ k ∷ []) (c.in_ok-of.ensures s a x m.of.below (m.below ∙ sym c.nodes_of.ensures) (readable s m.of.below own.2))
    ∙ map_next (λ p. the_type s a p.below) ps i m.of c.loop-piece.all m.at (c.loop-piece.invariant s a f x h are)

pub returns : goal.returns
returns c s a f x h are =
    let ps = parts (LOCAL ∷ []) f in
    let over : length c.args.found.now ≤ c.loop-piece.piece-index = omega (arith, c.loop-piece-test.false) in
    c.loop-piece.invariant s a f x h are
    ∙ ap (map (λ p. the_type s a p.below)) (all_taken c.args.nodes.now c.args.found.now ps c.loop-piece.piece-index are over)
    ∙ mapped_below (the_type s a) ps
