use Rattle.std.proofs.Common.{[], ◌∷◌, ◌++◌, ◌≤◌, length, map, ap, sym, subst, ◌∙◌, arith}
use Rattle.ilasm_grammar.specs.declared.productions.TheConstants.{ASSEMBLY_EXTERN}
use Rattle.source_model.specs.Forest.{parts}
use Rattle.source_model.specs.Names.{key_token}
use Rattle.source_nodes.specs.Pieces.{ArePieces}
use Rattle.source_nodes.proofs.PieceLemmas.{all_taken, part_read}
use Rattle.lower_manifest.proofs.ExternLemmas.{mapped_next}
use Rattle.elaborate.proofs.extern_keys.push_keys.Goals as goal

pub key_token-requires : goal.key_token-requires
key_token-requires c =
    let nodes = c.args.nodes.now in
    let ps = parts (ASSEMBLY_EXTERN ∷ []) c.requires.0 in
    let are = subst (λ xs. ArePieces nodes xs ps) (sym c.as_slice-piece-items.ensures) (c.in_ok-found.ensures c.requires.0 c.requires.1) in
    let m = part_read nodes c.as_slice-piece-items.result.now ps c.loop-piece.piece-index _ are c.loop-piece-test.true in
    (m.of.below, m.below ∙ sym c.nodes_of.ensures)

pub loop-piece-preserved : goal.loop-piece-preserved
loop-piece-preserved c f e =
    let nodes = c.args.nodes.now in
    let ps = parts (ASSEMBLY_EXTERN ∷ []) f in
    let are = subst (λ xs. ArePieces nodes xs ps) (sym c.as_slice-piece-items.ensures) (c.in_ok-found.ensures f e) in
    let m = part_read nodes c.as_slice-piece-items.result.now ps c.loop-piece.piece-index _ are c.loop-piece-test.true in
    c.in_ok-push.ensures.ok
    ∙ ap (λ k. c.loop-piece.tokens ++ k ∷ []) (c.key_token.ensures m.of.below (m.below ∙ sym c.nodes_of.ensures))
    ∙ mapped_next (λ p. key_token p.below) ps c.loop-piece.piece-index m.of c.args.tokens.now c.loop-piece.tokens m.at (c.loop-piece.invariant f e)

pub returns : goal.returns
returns c f e =
    let nodes = c.args.nodes.now in
    let ps = parts (ASSEMBLY_EXTERN ∷ []) f in
    let are = subst (λ xs. ArePieces nodes xs ps) (sym c.as_slice-piece-items.ensures) (c.in_ok-found.ensures f e) in
    let over : length c.as_slice-piece-items.result.now ≤ c.loop-piece.piece-index = omega (arith, c.loop-piece-test.false) in
    c.loop-piece.invariant f e ∙ ap (λ qs. c.args.tokens.now ++ map (λ p. key_token p.below) qs) (all_taken nodes c.as_slice-piece-items.result.now ps c.loop-piece.piece-index are over)
