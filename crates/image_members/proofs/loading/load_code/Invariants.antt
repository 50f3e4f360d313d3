use Rattle.std.proofs.Common.{drop}
use Rattle.assembly_tree.specs.Room.{instruction_texts}
use Rattle.image_tokens.proofs.LoadsLemmas.{LoadsTo}
use Rattle.image_members.proofs.loading.load_code.Given as goal

abbrev pub invariant-loop-ins : goal.invariant-loop-ins
invariant-loop-ins l = LoadsTo instruction_texts l.initial.user l.user l.code (drop l.ins-index l.code)
