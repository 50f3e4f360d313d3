use Rattle.std.proofs.Common.{[], ◌∷◌, ◌++◌, ap, sym, subst, ◌∙◌, append_assoc}
use Rattle.std.proofs.lemmas.Result.{on_ok_weaker}
use Rattle.ilasm_grammar.specs.declared.productions.TheConstants.{COMMA_NAME}
use Rattle.source_model.specs.Forest.{leaf_at, parts}
use Rattle.source_nodes.specs.Pieces.{ArePieces}
use Rattle.source_nodes.proofs.PieceLemmas.{mapped_below}
use Rattle.source_syntax.proofs.labels.push_names.Goals as goal

pub returns : goal.returns
returns c f e =
    let ps = parts (COMMA_NAME ∷ []) f in
    let are : ArePieces c.args.nodes.now c.as_slice.result.now ps =
    subst (λ found. ArePieces c.args.nodes.now found ps) (sym c.as_slice.ensures) (c.in_ok-found.ensures f e) in
    let others = c.in_ok-others.ensures ps are ∙ mapped_below (leaf_at 1) ps in
    on_ok_weaker c.append.result
    (λ appended.
    appended ∙ ap (λ xs. xs ++ c.in_ok-others.others) c.in_ok-push.ensures.ok
    ∙ append_assoc c.args.tokens.now (c.leaf_at.result ∷ []) c.in_ok-others.others
    ∙ ap (λ k. c.args.tokens.now ++ k ∷ c.in_ok-others.others) (c.leaf_at.ensures f e)
    ∙ ap (λ xs. c.args.tokens.now ++ leaf_at 0 f ∷ xs) others)
    c.append.ensures.ok
