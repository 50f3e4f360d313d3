use Rattle.std.proofs.Common.{◌≡◌, ◌≤◌, ◌-◌, length, drop, map}
use Rattle.std.specs.Prelude.{All}
use Rattle.il_lexer.specs.declared.types.TokenKind.TheVariants as kind
use Rattle.assembly_tree.specs.DataSize.{is_id}
use Rattle.source_model.specs.Nodes.{type_id}
use Rattle.source_model.specs.Source.{Source}
use Rattle.source_syntax.specs.ClassNumbers.{class_numbered, id_of, outer_of}
use Rattle.source_syntax.specs.Nested.{reached}
use Rattle.source_nodes.specs.Readers.{IsOf, Reads}
use Rattle.check_names.proofs.named_types.is_declared.Given as goal

abbrev pub invariant-loop-k : goal.invariant-loop-k
invariant-loop-k l = record {
  within : l.k ≤ length l.path;
  so_far : (s : Source) → Reads l.reader s → All (IsOf s kind.Name) l.path →
      class_numbered l.classes (map (type_id s) l.path) ≡ reached outer_of id_of is_id l.classes (map (type_id s) (drop l.k l.path)) l.at;
}

abbrev pub decreases-loop-k : goal.decreases-loop-k
decreases-loop-k l = length l.path - l.k
