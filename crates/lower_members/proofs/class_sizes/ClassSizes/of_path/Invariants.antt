use Rattle.std.proofs.Common.{◌≡◌, drop}
use Rattle.assembly_tree.specs.DataSize.{is_id}
use Rattle.source_syntax.specs.ClassNumbers.{class_numbered, id_of, outer_of}
use Rattle.source_syntax.specs.Nested.{reached}
use Rattle.lower_members.proofs.class_sizes.ClassSizes.of_path.Given as goal

abbrev pub invariant-loop-id : goal.invariant-loop-id
invariant-loop-id l = class_numbered l.self.paths l.path ≡ reached outer_of id_of is_id l.self.paths (drop l.id-index l.path) l.number
