use Rattle.type_names.proofs.Faulted.{fault_in_scopes}
use Rattle.type_names.proofs.first.first_unmet_scope.Goals as goal

pub returns-in-Some : goal.returns-in-Some
returns-in-Some c = fault_in_scopes c.args.image.now c.tables-tables.ensures.meets c.requires.meets c.in-Some.table c.in-Some.row c.in-Some.ensures.bad
