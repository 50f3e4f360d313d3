use Rattle.std.proofs.Common.{◌≡◌, ℕ, map, ap, sym, subst, ◌∙◌}
use Rattle.std.specs.Prelude.{Bool, not, filter, bytes_eq, is_some, position, IfOk}
use Rattle.source_model.specs.BodyFaults.{label_names}
use Rattle.source_model.specs.Instructions.{is_label}
use Rattle.source_model.specs.Values.{name_text}
use Rattle.source_nodes.specs.Least.{least}
use Rattle.source_syntax.specs.Methods.{AreNames}
use Rattle.source_syntax.proofs.LabelLemmas.{filter_same, is_label_named}
use Rattle.source_syntax.proofs.LabelTokens.{labels_are_names, label_names_are_names}
use Rattle.check_bodies.proofs.label_rules.LabelsUndeclaredMethodRule.first.Goals as goal

pub returns : goal.returns
returns c s n r m e =
    let f = n.below in
    let once = c.as_slice.ensures ∙ c.in_ok-tokens.ensures f e in
    let named = c.as_slice-2.ensures ∙ c.in_ok-named.ensures f e in
    let known =
    c.in_ok-names.ensures s r (subst (AreNames s) (sym once) (labels_are_names s f m.bodies)) ∙ ap (map (name_text s)) once in
    let isn't : ℕ → Bool = λ k. not (is_some (position (bytes_eq (name_text s k)) c.in_ok-names.names)) in
    let same =
    ap (filter isn't) named
    ∙ filter_same isn't (λ k. not (is_label s f k)) (label_names f)
    (λ k. ap not (ap (λ ns. is_some (position (bytes_eq (name_text s k)) ns)) known ∙ sym (is_label_named s f k))) in
    subst (λ tokens. IfOk c.first_missing.result (λ k. k ≡ least tokens)) same
    (c.first_missing.ensures s r (subst (AreNames s) (sym named) (label_names_are_names s f m.bodies)))
