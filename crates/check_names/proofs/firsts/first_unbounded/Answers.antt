use Rattle.std.proofs.Common.{◌++◌}
use Rattle.source_model.specs.BodyFaults.{branches_too_far, clauses_backwards, branches_to_the_end, body_numbers_out_of_range}
use Rattle.source_model.specs.Denotes.{broken_b}
use Rattle.source_model.specs.OutOfRange.{numbers_out_of_range, types_too_deep, nestings_too_deep, data_too_short, data_unsized}
use Rattle.source_model.specs.Faults.{rule_at}
use Rattle.check_names.proofs.FirstOfRules.{put_last}
use Rattle.check_names.proofs.firsts.first_unbounded.Goals as goal

pub returns : goal.returns
unfolding broken_b
returns c s t =
    let first = c.the_first_is_least.ensures in
    let all_numbers = c.of_rule-numbers.ensures (numbers_out_of_range s ++ body_numbers_out_of_range s) t.numbers in
    let all_branches = put_last first 2 (branches_too_far s) (rule_at 1 (numbers_out_of_range s ++ body_numbers_out_of_range s)) c.of_rule-branches.result c.of_rule-numbers.result c.earlier-to_branches.result
    (c.of_rule-branches.ensures (branches_too_far s) t.branches) all_numbers c.earlier-to_branches.ensures in
    let all_clauses = put_last first 3 (clauses_backwards s) ((rule_at 1 (numbers_out_of_range s ++ body_numbers_out_of_range s)) ++ rule_at 2 (branches_too_far s)) c.of_rule-clauses.result c.earlier-to_branches.result c.earlier-to_clauses.result
    (c.of_rule-clauses.ensures (clauses_backwards s) t.clauses) all_branches c.earlier-to_clauses.ensures in
    let all_types = put_last first 4 (types_too_deep s) (((rule_at 1 (numbers_out_of_range s ++ body_numbers_out_of_range s)) ++ rule_at 2 (branches_too_far s)) ++ rule_at 3 (clauses_backwards s)) c.of_rule-types.result c.earlier-to_clauses.result c.earlier-to_types.result
    (c.of_rule-types.ensures (types_too_deep s) t.types) all_clauses c.earlier-to_types.ensures in
    let all_ends = put_last first 5 (branches_to_the_end s) ((((rule_at 1 (numbers_out_of_range s ++ body_numbers_out_of_range s)) ++ rule_at 2 (branches_too_far s)) ++ rule_at 3 (clauses_backwards s)) ++ rule_at 4 (types_too_deep s)) c.of_rule-ends.result c.earlier-to_types.result c.earlier-to_ends.result
    (c.of_rule-ends.ensures (branches_to_the_end s) t.ends) all_types c.earlier-to_ends.ensures in
    let all_nestings = put_last first 6 (nestings_too_deep s) (((((rule_at 1 (numbers_out_of_range s ++ body_numbers_out_of_range s)) ++ rule_at 2 (branches_too_far s)) ++ rule_at 3 (clauses_backwards s)) ++ rule_at 4 (types_too_deep s)) ++ rule_at 5 (branches_to_the_end s)) c.of_rule-nestings.result c.earlier-to_ends.result c.earlier-to_nestings.result
    (c.of_rule-nestings.ensures (nestings_too_deep s) t.nestings) all_ends c.earlier-to_nestings.ensures in
    let all_short = put_last first 7 (data_too_short s) ((((((rule_at 1 (numbers_out_of_range s ++ body_numbers_out_of_range s)) ++ rule_at 2 (branches_too_far s)) ++ rule_at 3 (clauses_backwards s)) ++ rule_at 4 (types_too_deep s)) ++ rule_at 5 (branches_to_the_end s)) ++ rule_at 6 (nestings_too_deep s)) c.of_rule-short.result c.earlier-to_nestings.result c.earlier-to_short.result
    (c.of_rule-short.ensures (data_too_short s) t.short) all_nestings c.earlier-to_short.ensures in
    let all_without_size = put_last first 8 (data_unsized s) (((((((rule_at 1 (numbers_out_of_range s ++ body_numbers_out_of_range s)) ++ rule_at 2 (branches_too_far s)) ++ rule_at 3 (clauses_backwards s)) ++ rule_at 4 (types_too_deep s)) ++ rule_at 5 (branches_to_the_end s)) ++ rule_at 6 (nestings_too_deep s)) ++ rule_at 7 (data_too_short s)) c.of_rule-without_size.result c.earlier-to_short.result c.earlier.result
    (c.of_rule-without_size.ensures (data_unsized s) t.without-size) all_short c.earlier.ensures in
    all_without_size
