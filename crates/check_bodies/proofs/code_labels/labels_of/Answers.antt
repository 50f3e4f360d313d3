use Rattle.std.proofs.Common.{map, ap, sym, subst, ◌∙◌}
use Rattle.std.specs.List.Sorted.{IsNonDecreasing}
use Rattle.source_model.specs.Instructions.{number_at}
use Rattle.source_model.specs.Values.{name_text}
use Rattle.source_syntax.specs.Methods.{AreNames}
use Rattle.source_syntax.proofs.LabelTokens.{labels_are_names}
use Rattle.source_syntax.proofs.OpTokens.{instructions_have_tokens}
use Rattle.source_syntax.proofs.OrderLemmas.{numbers_are, starts_never_fall}
use Rattle.check_bodies.proofs.code_labels.labels_of.Goals as goal

pub returns : goal.returns
returns c s n r m tokens code =
    let f = n.below in
    let starts = c.as_slice.ensures ∙ c.in_ok-starts.ensures _ code in
    let sorted =
    subst IsNonDecreasing (sym starts) (starts_never_fall f m.first m.count m.in-order (instructions_have_tokens s f m.bodies)) in
    record {
      names-are = c.in_ok-names.ensures s r (subst (AreNames s) (sym tokens) (labels_are_names s f m.bodies)) ∙ ap (map (name_text s)) tokens;
      numbers-are = c.in_ok-numbers.ensures sorted ∙ numbers_are f c.as_slice.result.now c.args.tokens.now starts ∙ ap (map (number_at f)) tokens;
    }
