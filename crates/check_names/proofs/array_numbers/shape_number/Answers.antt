use Rattle.std.proofs.Common.{◌≡◌, List, [], ◌++◌, map, ◌∙◌, ap, sym}
use Rattle.std.specs.Prelude.{Bool, false, drop, if◌then◌else◌}
use Rattle.std.specs.List.{flat_map}
use Rattle.source_model.specs.Shapes.{Bound, commas, dimensions, is_vector}
use Rattle.source_model.specs.TypeRules.{comma_past_rank, size_after_gap}
use Rattle.source_nodes.specs.Dimensions.{bound_of}
use Rattle.source_nodes.specs.Least.{least}
use Rattle.check_names.specs.ArrayNumbers.{dimension_number}
use Rattle.check_names.proofs.ArrayLemmas.{next_rule}
use Rattle.check_names.proofs.array_numbers.shape_number.Goals as goal

pub returns : goal.returns
returns c s f r e =
    let found = flat_map (dimension_number s) (dimensions f) in
    let gaps = size_after_gap (dimensions f) in
    let past = comma_past_rank (drop 31 (commas s f)) in
    let other : is_vector f ≡ false = sym (c.has.ensures f e) ∙ c.if-has.false in
    let first = ap (map bound_of) c.as_slice.ensures ∙ c.in_ok-dimensions.ensures f e in
    let second = ap (map bound_of) c.as_slice-2.ensures ∙ c.in_ok-dimensions.ensures f e in
    next_rule c.sooner.result c.sooner-to_gap.result c.comma_past_rank-comma.result (found ++ gaps) past c.sooner.ensures
    (next_rule c.sooner-to_gap.result c.bound_number-bound.result c.size_after_gap-gap.result found gaps c.sooner-to_gap.ensures
    (c.bound_number-bound.ensures s r ∙ ap (λ (bs : List Bound). least (flat_map (dimension_number s) bs)) first)
    (c.size_after_gap-gap.ensures ∙ ap (λ (bs : List Bound). least (size_after_gap bs)) second))
    (c.comma_past_rank-comma.ensures s f r e)
    ∙ ap least (sym (ap (λ (b : Bool). if b then [] else found ++ gaps ++ past) other))
