use Rattle.std.proofs.Common.{ℕ, ◌∙◌, ap, sym}
use Rattle.std.specs.List.{flat_map}
use Rattle.ilasm_grammar.specs.declared.productions.TheConstants.{BRACKETED_INT, PARENTHESIZED_INT}
use Rattle.source_model.specs.Data.{item_bits}
use Rattle.source_model.specs.Forest.{each, leaf_at}
use Rattle.source_model.specs.OutOfRange.{fits_width, is_repeat}
use Rattle.source_model.specs.TypeRules.{unless}
use Rattle.source_nodes.specs.Least.{least, sooner}
use Rattle.source_syntax.proofs.LeastLemmas.{least_append}
use Rattle.check_names.proofs.data_numbers.item_number.Goals as goal

pub returns : goal.returns
returns c s f r e =
    let values = λ (bits : ℕ). flat_map (λ g. unless (fits_width bits) s (leaf_at 1 g)) (each PARENTHESIZED_INT f) in
    let counts = flat_map (λ g. unless is_repeat s (leaf_at 1 g)) (each BRACKETED_INT f) in
    c.sooner.ensures
    ∙ ap (λ o. sooner o c.beyond_in_each-count.result)
    (c.beyond_in_each-value.ensures s f r e ∙ ap (λ n. least (values n)) (c.item_width-width.ensures f e))
    ∙ ap (sooner (least (values (item_bits f)))) (c.beyond_in_each-count.ensures s f r e)
    ∙ sym (least_append (values (item_bits f)) counts)
