use Rattle.std.proofs.Common.{List, drop}
use Rattle.assembly_tree.specs.declared.members.Accessor.{Accessor}
use Rattle.image_rows.specs.SemanticsRows.{accessors_with}
use Rattle.image_rows.proofs.AccessorLemmas.{Adding}
use Rattle.image_rows.proofs.semantics_rows.push_accessors.Given as goal

abbrev pub invariant-loop-accessor : goal.invariant-loop-accessor
invariant-loop-accessor l = Adding l.initial.rows l.rows (accessors_with l.association l.first l.accessors) (accessors_with l.association l.first (drop l.accessor-index l.accessors))
