use Rattle.std.proofs.Common.{◌≡◌, drop}
use Rattle.std.specs.List.{find}
use Rattle.type_hierarchy.specs.Declarations.{is_of_instances}
use Rattle.type_tables.proofs.declaring.first_of_instances.Given as goal

abbrev pub invariant-loop-field : goal.invariant-loop-field
invariant-loop-field l = find is_of_instances (drop l.field-index l.fields) ≡ find is_of_instances l.fields
