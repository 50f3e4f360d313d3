use Rattle.std.proofs.Common.{◌≤◌, [], ◌∷◌, ◌++◌, length, map, ap, sym, subst, ◌∙◌, arith}
use Rattle.source_model.specs.Members.{accessor, accessors_in}
use Rattle.source_nodes.specs.Pieces.{ArePieces}
use Rattle.source_nodes.proofs.PieceLemmas.{all_taken, map_next, part_read}
use Rattle.source_flags.specs.InRange.{IsInRange}
use Rattle.source_flags.specs.Lines.{productions_of}
use Rattle.source_flags.specs.declared.gathering.Kind.TheVariants.{Accessors}
use Rattle.source_flags.proofs.Gathered.{IsSought, all_at, of_parts}
use Rattle.lower_members.proofs.accessors.accessors.Goals as goal

pub accessor-requires-clause-forest : goal.accessor-requires-clause-forest
accessor-requires-clause-forest c =
    let found = c.as_slice-piece-items.result.now in
    let f = c.requires.forest in
    let ps = accessors_in f.0 in
    let are : ArePieces c.args.nodes.now found ps =
    subst (λ xs. ArePieces c.args.nodes.now xs ps) (sym c.as_slice-piece-items.ensures) (c.in_ok-found.ensures f.0 f.1) in
    let m = part_read c.args.nodes.now found ps c.loop-piece.piece-index _ are c.loop-piece-test.true in
    (m.of.below, m.below ∙ sym c.nodes_of-below.ensures)

pub loop-piece-preserved : goal.loop-piece-preserved
loop-piece-preserved c s a x f ms e h methods few =
    let found = c.as_slice-piece-items.result.now in
    let ps = accessors_in f in
    let i = c.loop-piece.piece-index in
    let are : ArePieces c.args.nodes.now found ps =
    subst (λ xs. ArePieces c.args.nodes.now xs ps) (sym c.as_slice-piece-items.ensures) (c.in_ok-found.ensures f e) in
    let m = part_read c.args.nodes.now found ps i _ are c.loop-piece-test.true in
    let own = all_at (IsSought (IsInRange s) (productions_of Accessors)) ps i m.of (of_parts (IsInRange s) (productions_of Accessors) f h) m.at in
    c.in_ok-push.ensures.ok
    ∙ ap (λ k. c.loop-piece.all ++ k ∷ [])
    (c.in_ok-one.ensures s a x m.of ms m.production (m.below ∙ sym c.nodes_of-below.ensures) own.0 own.1 own.2 methods few)
    ∙ map_next (accessor s a ms) ps i m.of c.loop-piece.all m.at (c.loop-piece.invariant s a x f ms e h methods few)

pub returns : goal.returns
returns c s a x f ms e h methods few =
    let found = c.as_slice-piece-items.result.now in
    let ps = accessors_in f in
    let are : ArePieces c.args.nodes.now found ps =
    subst (λ xs. ArePieces c.args.nodes.now xs ps) (sym c.as_slice-piece-items.ensures) (c.in_ok-found.ensures f e) in
    let over : length found ≤ c.loop-piece.piece-index = omega (arith, c.loop-piece-test.false) in
    c.loop-piece.invariant s a x f ms e h methods few ∙ ap (map (accessor s a ms)) (all_taken c.args.nodes.now found ps c.loop-piece.piece-index are over)
