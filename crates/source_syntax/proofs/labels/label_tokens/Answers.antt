use Rattle.std.proofs.Common.{[], ◌∷◌, sym, subst, ◌∙◌}
use Rattle.ilasm_grammar.specs.declared.productions.TheConstants.{ITEM_NAME}
use Rattle.source_model.specs.Forest.{leaf_at, parts}
use Rattle.source_nodes.specs.Pieces.{ArePieces}
use Rattle.source_nodes.proofs.PieceLemmas.{mapped_below}
use Rattle.source_syntax.proofs.labels.label_tokens.Goals as goal

pub returns : goal.returns
returns c f e =
    let ps = parts (ITEM_NAME ∷ []) f in
    let are : ArePieces c.args.nodes.now c.as_slice.result.now ps =
    subst (λ found. ArePieces c.args.nodes.now found ps) (sym c.as_slice.ensures) (c.in_ok-found.ensures f e) in
    c.in_ok-tokens.ensures ps are ∙ mapped_below (leaf_at 0) ps
