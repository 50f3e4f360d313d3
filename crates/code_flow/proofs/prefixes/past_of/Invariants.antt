use Rattle.std.proofs.Common.{◌≡◌, ℕ, ◌<◌, Some}
use Rattle.std.specs.Prelude.{slice_get, IsTrue}
use Rattle.assembly_tree.specs.declared.body.Ins.{Ins}
use Rattle.code_flow.specs.Operations.{operation}
use Rattle.code_flow.specs.Prefixes.{is_prefix}
use Rattle.code_flow.proofs.prefixes.past_of.Given as goal

abbrev pub invariant-loop-at : goal.invariant-loop-at
invariant-loop-at l = (l.k < l.at) × ((m : ℕ) (i : Ins) → l.k < m → m < l.at → slice_get l.code m ≡ Some i → IsTrue (is_prefix (operation i.op)))
