use Rattle.std.proofs.Common.{◌++◌}
use Rattle.source_model.specs.BodyFaults.{labels_twice}
use Rattle.source_model.specs.Denotes.{broken_d}
use Rattle.source_model.specs.DeclaredTwice.{types_twice, members_twice, externs_twice, entries_twice, manifests_twice, data_twice}
use Rattle.source_model.specs.Faults.{rule_at}
use Rattle.check_names.proofs.FirstOfRules.{put_last}
use Rattle.check_names.proofs.firsts.first_twice.Goals as goal

pub returns : goal.returns
unfolding broken_d
returns c s t =
    let first = c.the_first_is_least.ensures in
    let all_types = c.of_rule-types.ensures (types_twice s) t.types in
    let all_members = put_last first 2 (members_twice s) (rule_at 1 (types_twice s)) c.of_rule-members.result c.of_rule-types.result c.earlier-to_members.result
    (c.of_rule-members.ensures (members_twice s) t.members) all_types c.earlier-to_members.ensures in
    let all_externs = put_last first 3 (externs_twice s) ((rule_at 1 (types_twice s)) ++ rule_at 2 (members_twice s)) c.of_rule-externs.result c.earlier-to_members.result c.earlier-to_externs.result
    (c.of_rule-externs.ensures (externs_twice s) t.externs) all_members c.earlier-to_externs.ensures in
    let all_labels = put_last first 4 (labels_twice s) (((rule_at 1 (types_twice s)) ++ rule_at 2 (members_twice s)) ++ rule_at 3 (externs_twice s)) c.of_rule-labels.result c.earlier-to_externs.result c.earlier-to_labels.result
    (c.of_rule-labels.ensures (labels_twice s) t.labels) all_externs c.earlier-to_labels.ensures in
    let all_entries = put_last first 5 (entries_twice s) ((((rule_at 1 (types_twice s)) ++ rule_at 2 (members_twice s)) ++ rule_at 3 (externs_twice s)) ++ rule_at 4 (labels_twice s)) c.of_rule-entries.result c.earlier-to_labels.result c.earlier-to_entries.result
    (c.of_rule-entries.ensures (entries_twice s) t.entries) all_labels c.earlier-to_entries.ensures in
    let all_manifests = put_last first 6 (manifests_twice s) (((((rule_at 1 (types_twice s)) ++ rule_at 2 (members_twice s)) ++ rule_at 3 (externs_twice s)) ++ rule_at 4 (labels_twice s)) ++ rule_at 5 (entries_twice s)) c.of_rule-manifests.result c.earlier-to_entries.result c.earlier-to_manifests.result
    (c.of_rule-manifests.ensures (manifests_twice s) t.manifests) all_entries c.earlier-to_manifests.ensures in
    let all_data_labels = put_last first 7 (data_twice s) ((((((rule_at 1 (types_twice s)) ++ rule_at 2 (members_twice s)) ++ rule_at 3 (externs_twice s)) ++ rule_at 4 (labels_twice s)) ++ rule_at 5 (entries_twice s)) ++ rule_at 6 (manifests_twice s)) c.of_rule-data_labels.result c.earlier-to_manifests.result c.earlier.result
    (c.of_rule-data_labels.ensures (data_twice s) t.data-labels) all_manifests c.earlier.ensures in
    all_data_labels
