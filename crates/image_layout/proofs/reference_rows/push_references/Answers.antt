use Rattle.image_layout.proofs.ReferenceLemmas.{name_cells, member_cells, local_cells, spec_cells, instance_cells}
use Rattle.image_layout.proofs.reference_rows.push_references.Goals as goal

pub push_set-requires-clause-cells : goal.push_set-requires-clause-cells
push_set-requires-clause-cells c = name_cells c.row_of_columns.ensures

pub push_set-requires-2-clause-cells : goal.push_set-requires-2-clause-cells
push_set-requires-2-clause-cells c = member_cells c.row_of_columns.ensures

pub push_set-requires-3-clause-cells : goal.push_set-requires-3-clause-cells
push_set-requires-3-clause-cells c = local_cells c.row_of_columns.ensures

pub push_set-requires-4-clause-cells : goal.push_set-requires-4-clause-cells
push_set-requires-4-clause-cells c = spec_cells c.row_of_columns.ensures

pub push_set-requires-5-clause-cells : goal.push_set-requires-5-clause-cells
push_set-requires-5-clause-cells c = instance_cells c.row_of_columns.ensures
