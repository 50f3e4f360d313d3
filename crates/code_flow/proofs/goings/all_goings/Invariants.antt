use Rattle.std.proofs.Common.{◌≡◌, ℕ, ◌+◌, ◌<◌, List, length, Some}
use Rattle.std.specs.Prelude.{slice_get}
use Rattle.assembly_tree.specs.declared.body.Ins.{Ins}
use Rattle.code_flow.specs.declared.goings.Going.{Going}
use Rattle.code_flow.specs.GoingTests.{guards_from, leaves_from, HasGoings}
use Rattle.code_flow.proofs.goings.all_goings.Given as goal

-- those of the instructions so far
abbrev pub invariant-loop-k : goal.invariant-loop-k
invariant-loop-k l = (length l.all ≡ l.k) × ((j : ℕ) (i : Ins) (g : List Going) → j < l.k → slice_get l.code j ≡ Some i → slice_get l.all j ≡ Some g →
    HasGoings (length l.code) l.clauses (leaves_from 0 l.code) j i g) × ((j : ℕ) → j + 1 ≡ l.k → l.guards ≡ guards_from j 0 l.clauses)
