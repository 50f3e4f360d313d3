use Rattle.std.proofs.Common.{◌≡◌, map, ap, sym, subst, ◌∙◌}
use Rattle.std.specs.Prelude.{IfOk}
use Rattle.source_model.specs.BodyFaults.{is_same_name}
use Rattle.source_model.specs.DeclaredTwice.{repeats}
use Rattle.source_model.specs.Values.{name_text}
use Rattle.source_nodes.specs.Least.{least}
use Rattle.source_syntax.specs.Methods.{AreNames}
use Rattle.source_syntax.proofs.LabelTokens.{labels_are_names}
use Rattle.check_bodies.proofs.label_rules.LabelsTwiceMethodRule.first.Goals as goal

pub returns : goal.returns
returns c s n r m e =
    let once = c.as_slice.ensures ∙ c.in_ok-tokens.ensures n.below e in
    let again = c.as_slice-2.ensures ∙ c.in_ok-tokens.ensures n.below e in
    let names = labels_are_names s n.below m.bodies in
    let known =
    c.in_ok-names.ensures s r (subst (AreNames s) (sym once) names) ∙ ap (map (name_text s)) (once ∙ sym again) in
    subst (λ tokens. IfOk c.first_repeat.result (λ k. k ≡ least (repeats (is_same_name s) tokens))) again
    (c.first_repeat.ensures s r (subst (AreNames s) (sym again) names) known)
