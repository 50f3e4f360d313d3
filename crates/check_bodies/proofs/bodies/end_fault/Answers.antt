use Rattle.std.proofs.Common.{◌≡◌, length, ap, sym, subst, ◌∙◌}
use Rattle.std.specs.Prelude.{filter, false, ◌==◌, IfOk}
use Rattle.std.specs.List.{flat_map, list_any}
use Rattle.source_model.specs.Instructions.{instructions_of, targets}
use Rattle.source_syntax.specs.Labels.{ends_at, number_declared}
use Rattle.source_nodes.specs.Least.{least}
use Rattle.source_syntax.specs.Methods.{AreNames}
use Rattle.source_syntax.proofs.LabelTokens.{all_targets_are_names}
use Rattle.check_bodies.proofs.BranchLemmas.{to_the_end}
use Rattle.check_bodies.proofs.EndLemmas.{none_at_end}
use Rattle.check_bodies.proofs.bodies.end_fault.Goals as goal

pub returns-then-not-is_among : goal.returns-then-not-is_among
returns-then-not-is_among c s n r m many tokens labels =
    let f = n.below in
    let ps = instructions_of f in
    let none : list_any (λ k. k == length ps) c.args.labels.now.numbers ≡ false =
    ap (λ k. list_any (λ j. j == k) c.args.labels.now.numbers) (sym many) ∙ ap (list_any (λ j. j == length c.args.code.now)) (sym c.as_slice.ensures)
    ∙ sym c.is_among.ensures ∙ c.if-not-is_among.true in
    ap least (sym (to_the_end s f ps ∙ none_at_end s f c.args.labels.now (length ps) (flat_map targets ps) labels none))

pub returns : goal.returns
returns c s n r m many tokens labels =
    let f = n.below in
    let ps = instructions_of f in
    let same =
    ap (filter (λ t. ends_at (length c.args.code.now) (number_declared s f t))) tokens
    ∙ ap (λ number. filter (λ t. ends_at number (number_declared s f t)) (flat_map targets ps)) many ∙ sym (to_the_end s f ps) in
    subst (λ all. IfOk c.first_at.result (λ k. k ≡ least all)) same
    (c.first_at.ensures s f r labels (subst (AreNames s) (sym tokens) (all_targets_are_names s f m.bodies)))
