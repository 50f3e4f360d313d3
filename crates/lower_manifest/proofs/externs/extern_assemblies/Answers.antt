use Rattle.std.proofs.Common.{◌≤◌, [], ◌∷◌, ◌++◌, length, map, ap, sym, subst, ◌∙◌, arith}
use Rattle.std.specs.List.{AllByRecursion, flat_map}
use Rattle.ilasm_grammar.specs.declared.productions.TheConstants.{DECL_ASSEMBLY}
use Rattle.source_model.specs.Forest.{Part}
use Rattle.source_model.specs.Items.{declarations}
use Rattle.source_nodes.specs.Pieces.{ArePieces}
use Rattle.source_nodes.proofs.PieceLemmas.{all_taken, flat_next, part_read}
use Rattle.source_flags.specs.InRange.{AllInRange}
use Rattle.lower_manifest.specs.Chosen.{are_of}
use Rattle.source_flags.specs.declared.gathering.Kind.TheVariants.{One}
use Rattle.source_flags.proofs.Gathered.{all_at}
use Rattle.lower_manifest.proofs.ExternLemmas.{declared_in_range, named_in, named_in_all}
use Rattle.lower_manifest.proofs.externs.extern_assemblies.Goals as goal

pub push_externs-requires : goal.push_externs-requires
push_externs-requires c =
    let nodes = c.args.reader.now.nodes.now in
    let ps = are_of (One DECL_ASSEMBLY) c.requires.0 in
    let are = subst (λ xs. ArePieces nodes xs ps) (sym c.as_slice-piece-items.ensures) (c.in_ok-found.ensures nodes c.requires.0 c.requires.1) in
    let m = part_read nodes c.as_slice-piece-items.result.now ps c.loop-piece.piece-index _ are c.loop-piece-test.true in
    (m.of.below, m.below ∙ sym c.nodes_of.ensures)

pub loop-piece-preserved : goal.loop-piece-preserved
loop-piece-preserved c s r declared h =
    let nodes = c.args.reader.now.nodes.now in
    let ps = are_of (One DECL_ASSEMBLY) (declarations s.tree) in
    let i = c.loop-piece.piece-index in
    let are = subst (λ xs. ArePieces nodes xs ps) (sym c.as_slice-piece-items.ensures) (c.in_ok-found.ensures nodes (declarations s.tree) declared) in
    let m = part_read nodes c.as_slice-piece-items.result.now ps i _ are c.loop-piece-test.true in
    let own = all_at (λ (p : Part). AllInRange s p.below) ps i m.of (declared_in_range s h) m.at in
    c.in_ok-push_externs.ensures s m.of.below r (m.below ∙ sym c.nodes_of.ensures) own
    ∙ flat_next (named_in s) ps i m.of [] c.loop-piece.all m.at (c.loop-piece.invariant s r declared h)

pub returns : goal.returns
returns c s r declared h =
    let nodes = c.args.reader.now.nodes.now in
    let ps = are_of (One DECL_ASSEMBLY) (declarations s.tree) in
    let are = subst (λ xs. ArePieces nodes xs ps) (sym c.as_slice-piece-items.ensures) (c.in_ok-found.ensures nodes (declarations s.tree) declared) in
    let over : length c.as_slice-piece-items.result.now ≤ c.loop-piece.piece-index = omega (arith, c.loop-piece-test.false) in
    c.loop-piece.invariant s r declared h
    ∙ ap (flat_map (named_in s)) (all_taken nodes c.as_slice-piece-items.result.now ps c.loop-piece.piece-index are over)
    ∙ named_in_all s (c.derivations_have_bodies.ensures s r.derived)
