use Rattle.std.proofs.Common.{drop}
use Rattle.assembly_tree.specs.Room.{method_texts}
use Rattle.image_tokens.proofs.LoadsLemmas.{LoadsTo}
use Rattle.image_members.proofs.loading.load_methods.Given as goal

abbrev pub invariant-loop-method : goal.invariant-loop-method
invariant-loop-method l = LoadsTo method_texts l.initial.user l.user l.methods (drop l.method-index l.methods)
