use Rattle.std.proofs.Common.{drop}
use Rattle.std.specs.List.{sum_by}
use Rattle.assembly_tree.specs.Nesting.{types_in}
use Rattle.assembly_tree.specs.Room.{typedef_texts}
use Rattle.image_tokens.proofs.LoadsLemmas.{LoadsTo}
use Rattle.image_members.proofs.loading.+load_types.Given as goal

abbrev pub invariant-loop-of : goal.invariant-loop-of
invariant-loop-of l = LoadsTo typedef_texts l.initial.user l.user l.types (drop l.of-index l.types)

abbrev pub decreases-load_types : goal.decreases-load_types
decreases-load_types l = sum_by types_in l.types.now
