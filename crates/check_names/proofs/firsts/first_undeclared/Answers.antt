use Rattle.std.proofs.Common.{◌++◌}
use Rattle.source_model.specs.BodyFaults.{labels_undeclared, variables_undeclared}
use Rattle.source_model.specs.Denotes.{broken_n}
use Rattle.source_model.specs.Undeclared.{types_undeclared, scopes_undeclared, objects_undeclared, typars_undeclared, accessors_undeclared, assembly_undeclared, data_undeclared}
use Rattle.source_model.specs.Faults.{rule_at}
use Rattle.check_names.proofs.FirstOfRules.{put_last}
use Rattle.check_names.proofs.firsts.first_undeclared.Goals as goal

pub returns : goal.returns
unfolding broken_n
returns c s t =
    let first = c.the_first_is_least.ensures in
    let all_types = c.of_rule-types.ensures (types_undeclared s) t.types in
    let all_externs = put_last first 2 (scopes_undeclared s ++ objects_undeclared s) (rule_at 1 (types_undeclared s)) c.of_rule-externs.result c.of_rule-types.result c.earlier-to_externs.result
    (c.of_rule-externs.ensures (scopes_undeclared s ++ objects_undeclared s) t.externs) all_types c.earlier-to_externs.ensures in
    let all_labels = put_last first 3 (labels_undeclared s) ((rule_at 1 (types_undeclared s)) ++ rule_at 2 (scopes_undeclared s ++ objects_undeclared s)) c.of_rule-labels.result c.earlier-to_externs.result c.earlier-to_labels.result
    (c.of_rule-labels.ensures (labels_undeclared s) t.labels) all_externs c.earlier-to_labels.ensures in
    let all_variables = put_last first 4 (variables_undeclared s) (((rule_at 1 (types_undeclared s)) ++ rule_at 2 (scopes_undeclared s ++ objects_undeclared s)) ++ rule_at 3 (labels_undeclared s)) c.of_rule-variables.result c.earlier-to_labels.result c.earlier-to_variables.result
    (c.of_rule-variables.ensures (variables_undeclared s) t.variables) all_labels c.earlier-to_variables.ensures in
    let all_typars = put_last first 5 (typars_undeclared s) ((((rule_at 1 (types_undeclared s)) ++ rule_at 2 (scopes_undeclared s ++ objects_undeclared s)) ++ rule_at 3 (labels_undeclared s)) ++ rule_at 4 (variables_undeclared s)) c.of_rule-typars.result c.earlier-to_variables.result c.earlier-to_typars.result
    (c.of_rule-typars.ensures (typars_undeclared s) t.typars) all_variables c.earlier-to_typars.ensures in
    let all_accessors = put_last first 6 (accessors_undeclared s) (((((rule_at 1 (types_undeclared s)) ++ rule_at 2 (scopes_undeclared s ++ objects_undeclared s)) ++ rule_at 3 (labels_undeclared s)) ++ rule_at 4 (variables_undeclared s)) ++ rule_at 5 (typars_undeclared s)) c.of_rule-accessors.result c.earlier-to_typars.result c.earlier-to_accessors.result
    (c.of_rule-accessors.ensures (accessors_undeclared s) t.accessors) all_typars c.earlier-to_accessors.ensures in
    let all_assembly = put_last first 7 (assembly_undeclared s) ((((((rule_at 1 (types_undeclared s)) ++ rule_at 2 (scopes_undeclared s ++ objects_undeclared s)) ++ rule_at 3 (labels_undeclared s)) ++ rule_at 4 (variables_undeclared s)) ++ rule_at 5 (typars_undeclared s)) ++ rule_at 6 (accessors_undeclared s)) c.of_rule-assembly.result c.earlier-to_accessors.result c.earlier-to_assembly.result
    (c.of_rule-assembly.ensures (assembly_undeclared s) t.assembly) all_accessors c.earlier-to_assembly.ensures in
    let all_data_labels = put_last first 8 (data_undeclared s) (((((((rule_at 1 (types_undeclared s)) ++ rule_at 2 (scopes_undeclared s ++ objects_undeclared s)) ++ rule_at 3 (labels_undeclared s)) ++ rule_at 4 (variables_undeclared s)) ++ rule_at 5 (typars_undeclared s)) ++ rule_at 6 (accessors_undeclared s)) ++ rule_at 7 (assembly_undeclared s)) c.of_rule-data_labels.result c.earlier-to_assembly.result c.earlier.result
    (c.of_rule-data_labels.ensures (data_undeclared s) t.data-labels) all_assembly c.earlier.ensures in
    all_data_labels
