use Rattle.std.proofs.Common.{map, ap, sym, subst, ◌∙◌}
use Rattle.std.specs.List.Sorted.{IsNonDecreasing}
use Rattle.source_model.specs.Instructions.{number_at}
use Rattle.source_model.specs.Values.{name_text}
use Rattle.source_syntax.specs.Methods.{AreNames}
use Rattle.source_syntax.proofs.LabelTokens.{labels_are_names}
use Rattle.source_syntax.proofs.OpTokens.{instructions_have_tokens}
use Rattle.source_syntax.proofs.OrderLemmas.{numbers_are, starts_never_fall}
use Rattle.source_syntax.proofs.label_numbers.Labels.read.Goals as goal

pub returns : goal.returns
returns c s n r m e code =
    let f = n.below in
    let once = c.as_slice.ensures ∙ c.in_ok-tokens.ensures f e in
    let again = c.as_slice-3.ensures ∙ c.in_ok-tokens.ensures f e in
    let starts = c.as_slice-2.ensures ∙ c.in_ok-starts.ensures _ code in
    let sorted =
    subst IsNonDecreasing (sym starts) (starts_never_fall f m.first m.count m.in-order (instructions_have_tokens s f m.bodies)) in
    record {
      names-are = c.in_ok-names.ensures s r (subst (AreNames s) (sym once) (labels_are_names s f m.bodies)) ∙ ap (map (name_text s)) once;
      numbers-are = c.in_ok-numbers.ensures sorted ∙ numbers_are f c.as_slice-2.result.now c.as_slice-3.result.now starts ∙ ap (map (number_at f)) again;
    }
