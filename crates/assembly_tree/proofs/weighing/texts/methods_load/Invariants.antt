use Rattle.std.proofs.Common.{◌≡◌, drop}
use Rattle.std.specs.List.{flat_map}
use Rattle.assembly_tree.specs.Loading.{has_text}
use Rattle.assembly_tree.specs.Room.{method_texts}
use Rattle.assembly_tree.proofs.weighing.texts.methods_load.Given as goal

abbrev pub invariant-loop-method : goal.invariant-loop-method
invariant-loop-method l = has_text (flat_map method_texts l.methods) ≡ has_text (flat_map method_texts (drop l.method-index l.methods))
