use Rattle.std.proofs.Common.{◌≡◌, ap, sym, subst, ◌∙◌}
use Rattle.std.specs.Prelude.{filter, IfOk}
use Rattle.std.specs.List.{flat_map}
use Rattle.source_model.specs.Instructions.{instructions_of, targets}
use Rattle.source_syntax.specs.Labels.{ends_at, number_declared}
use Rattle.source_nodes.specs.Least.{least}
use Rattle.source_syntax.specs.Methods.{AreNames}
use Rattle.source_nodes.specs.Pieces.{ArePieces}
use Rattle.check_bodies.proofs.BranchLemmas.{to_the_end}
use Rattle.source_syntax.proofs.LabelTokens.{all_targets_are_names}
use Rattle.source_nodes.proofs.PieceLemmas.{as_many}
use Rattle.check_bodies.proofs.branch_rules.BranchesToTheEndMethodRule.first.Goals as goal

pub returns : goal.returns
returns c s n r m e =
    let f = n.below in
    let ps = instructions_of f in
    let code = c.in_ok-code.ensures f e in
    let once = subst (λ xs. ArePieces c.args.below.now xs ps) (sym c.as_slice.ensures) code in
    let again = subst (λ xs. ArePieces c.args.below.now xs ps) (sym c.as_slice-2.ensures) code in
    let tokens = c.as_slice-3.ensures ∙ c.in_ok-tokens.ensures ps again in
    let count = c.len.ensures ∙ as_many c.args.below.now c.in_ok-code.code ps code in
    let same =
    ap (filter (λ t. ends_at c.len.result (number_declared s f t))) tokens
    ∙ ap (λ number. filter (λ t. ends_at number (number_declared s f t)) (flat_map targets ps)) count ∙ sym (to_the_end s f ps) in
    subst (λ all. IfOk c.first_at.result (λ k. k ≡ least all)) same
    (c.first_at.ensures s f r (c.in_ok-labels.ensures s n r m e once) (subst (AreNames s) (sym tokens) (all_targets_are_names s f m.bodies)))
