use Rattle.std.proofs.Common.{◌≡◌, ◌≤◌, ◌-◌, length, drop}
use Rattle.assembly_tree.specs.DataSize.{is_id}
use Rattle.source_syntax.specs.ClassNumbers.{class_numbered, id_of, outer_of}
use Rattle.source_syntax.specs.Nested.{reached}
use Rattle.check_data.proofs.declared_sizes.number_at.Given as goal

abbrev pub invariant-loop-k : goal.invariant-loop-k
invariant-loop-k l = record {
  within : l.k ≤ length l.path;
  so_far : class_numbered l.classes l.path ≡ reached outer_of id_of is_id l.classes (drop l.k l.path) l.at;
}

abbrev pub decreases-loop-k : goal.decreases-loop-k
decreases-loop-k l = length l.path - l.k
