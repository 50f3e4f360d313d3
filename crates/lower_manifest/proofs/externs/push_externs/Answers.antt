use Rattle.std.proofs.Common.{◌≤◌, [], ◌∷◌, ◌++◌, length, map, ap, sym, subst, ◌∙◌, arith}
use Rattle.ilasm_grammar.specs.declared.productions.TheConstants.{ASSEMBLY_EXTERN}
use Rattle.source_model.specs.Forest.{parts}
use Rattle.source_nodes.specs.Pieces.{ArePieces}
use Rattle.source_nodes.proofs.PieceLemmas.{all_taken, part_read}
use Rattle.source_flags.specs.InRange.{IsInRange}
use Rattle.source_flags.proofs.Gathered.{IsSought, all_at, of_parts}
use Rattle.lower_manifest.specs.Externs.{extern_at}
use Rattle.lower_manifest.proofs.ExternLemmas.{mapped_next}
use Rattle.lower_manifest.proofs.KeyLemmas.{only}
use Rattle.lower_manifest.proofs.externs.push_externs.Goals as goal

pub extern_assembly-requires : goal.extern_assembly-requires
extern_assembly-requires c =
    let nodes = c.args.nodes.now in
    let ps = parts (ASSEMBLY_EXTERN ∷ []) c.requires.0 in
    let are = subst (λ xs. ArePieces nodes xs ps) (sym c.as_slice-piece-items.ensures) (c.in_ok-found.ensures c.requires.0 c.requires.1) in
    let m = part_read nodes c.as_slice-piece-items.result.now ps c.loop-piece.piece-index _ are c.loop-piece-test.true in
    (m.of.below, m.below ∙ sym c.nodes_of.ensures)

pub loop-piece-preserved : goal.loop-piece-preserved
loop-piece-preserved c s f r e h =
    let nodes = c.args.nodes.now in
    let ps = parts (ASSEMBLY_EXTERN ∷ []) f in
    let i = c.loop-piece.piece-index in
    let are = subst (λ xs. ArePieces nodes xs ps) (sym c.as_slice-piece-items.ensures) (c.in_ok-found.ensures f e) in
    let m = part_read nodes c.as_slice-piece-items.result.now ps i _ are c.loop-piece-test.true in
    let own = all_at (IsSought (IsInRange s) (ASSEMBLY_EXTERN ∷ [])) ps i m.of (of_parts (IsInRange s) (ASSEMBLY_EXTERN ∷ []) f h) m.at in
    c.in_ok-push.ensures.ok
    ∙ ap (λ k. c.loop-piece.all ++ k ∷ [])
    (c.in_ok-one.ensures s m.of.below r (m.below ∙ sym c.nodes_of.ensures) (subst (λ q. IsInRange s q m.of.below) (only ASSEMBLY_EXTERN m.of.production own.0) own.1) own.2)
    ∙ mapped_next (extern_at s) ps i m.of c.args.all.now c.loop-piece.all m.at (c.loop-piece.invariant s f r e h)

pub returns : goal.returns
returns c s f r e h =
    let nodes = c.args.nodes.now in
    let ps = parts (ASSEMBLY_EXTERN ∷ []) f in
    let are = subst (λ xs. ArePieces nodes xs ps) (sym c.as_slice-piece-items.ensures) (c.in_ok-found.ensures f e) in
    let over : length c.as_slice-piece-items.result.now ≤ c.loop-piece.piece-index = omega (arith, c.loop-piece-test.false) in
    c.loop-piece.invariant s f r e h ∙ ap (λ qs. c.args.all.now ++ map (extern_at s) qs) (all_taken nodes c.as_slice-piece-items.result.now ps c.loop-piece.piece-index are over)
