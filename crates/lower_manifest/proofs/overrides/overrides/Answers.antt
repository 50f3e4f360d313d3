use Rattle.std.proofs.Common.{◌≤◌, [], ◌∷◌, ◌++◌, length, map, ap, sym, subst, ◌∙◌, arith}
use Rattle.source_model.specs.Forest.{parts, parts_outside}
use Rattle.source_model.specs.Members.{overridden}
use Rattle.source_nodes.specs.Pieces.{ArePieces}
use Rattle.source_nodes.proofs.PieceLemmas.{all_taken, map_next, part_read}
use Rattle.source_flags.specs.InRange.{IsInRange}
use Rattle.source_flags.specs.Lines.{productions_of}
use Rattle.source_flags.specs.declared.gathering.Kind.TheVariants.{Overrides}
use Rattle.source_flags.specs.Outside.{shut_of}
use Rattle.source_flags.specs.declared.outside.Shut.TheVariants.{Instructions}
use Rattle.source_flags.proofs.Apart.{same_outside}
use Rattle.source_flags.proofs.Gathered.{IsSought, all_at, has_bodies, of_parts}
use Rattle.lower_manifest.proofs.PastLemmas.{overrides_past}
use Rattle.lower_manifest.proofs.overrides.overrides.Goals as goal

pub overridden-requires-clause-forest : goal.overridden-requires-clause-forest
overridden-requires-clause-forest c =
    let found = c.as_slice-piece-items.result.now in
    let f = c.requires.forest in
    let ps = parts_outside (shut_of Instructions) (productions_of Overrides) f.0 in
    let are : ArePieces c.args.nodes.now found ps =
    subst (λ xs. ArePieces c.args.nodes.now xs ps) (sym c.as_slice-piece-items.ensures) (c.in_ok-found.ensures f.0 f.1) in
    let m = part_read c.args.nodes.now found ps c.loop-piece.piece-index _ are c.loop-piece-test.true in
    (m.of.below, m.below ∙ sym c.nodes_of-below.ensures)

pub loop-piece-preserved : goal.loop-piece-preserved
loop-piece-preserved c s a x f e h =
    let found = c.as_slice-piece-items.result.now in
    let ps = parts (productions_of Overrides) f in
    let i = c.loop-piece.piece-index in
    let are : ArePieces c.args.nodes.now found ps =
    subst (ArePieces c.args.nodes.now found) (same_outside Instructions (productions_of Overrides) overrides_past s f (has_bodies s f h))
    (subst (λ xs. ArePieces c.args.nodes.now xs (parts_outside (shut_of Instructions) (productions_of Overrides) f)) (sym c.as_slice-piece-items.ensures) (c.in_ok-found.ensures f e)) in
    let m = part_read c.args.nodes.now found ps i _ are c.loop-piece-test.true in
    let own = all_at (IsSought (IsInRange s) (productions_of Overrides)) ps i m.of (of_parts (IsInRange s) (productions_of Overrides) f h) m.at in
    c.in_ok-push.ensures.ok
    ∙ ap (λ k. c.loop-piece.all ++ k ∷ [])
    (c.in_ok-one.ensures s a x f m.of e h m.production (m.below ∙ sym c.nodes_of-below.ensures) own.0 own.1 own.2)
    ∙ map_next (overridden s a f) ps i m.of c.loop-piece.all m.at (c.loop-piece.invariant s a x f e h)

pub returns : goal.returns
returns c s a x f e h =
    let found = c.as_slice-piece-items.result.now in
    let ps = parts (productions_of Overrides) f in
    let are : ArePieces c.args.nodes.now found ps =
    subst (ArePieces c.args.nodes.now found) (same_outside Instructions (productions_of Overrides) overrides_past s f (has_bodies s f h))
    (subst (λ xs. ArePieces c.args.nodes.now xs (parts_outside (shut_of Instructions) (productions_of Overrides) f)) (sym c.as_slice-piece-items.ensures) (c.in_ok-found.ensures f e)) in
    let over : length found ≤ c.loop-piece.piece-index = omega (arith, c.loop-piece-test.false) in
    c.loop-piece.invariant s a x f e h ∙ ap (map (overridden s a f)) (all_taken c.args.nodes.now found ps c.loop-piece.piece-index are over)
