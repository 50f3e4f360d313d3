use Rattle.std.proofs.Common.{◌≡◌, drop}
use Rattle.std.specs.List.{flat_map}
use Rattle.assembly_tree.specs.Loading.{has_text}
use Rattle.assembly_tree.specs.Room.{instruction_texts}
use Rattle.assembly_tree.proofs.weighing.texts.code_loads.Given as goal

abbrev pub invariant-loop-ins : goal.invariant-loop-ins
invariant-loop-ins l = has_text (flat_map instruction_texts l.code) ≡ has_text (flat_map instruction_texts (drop l.ins-index l.code))
