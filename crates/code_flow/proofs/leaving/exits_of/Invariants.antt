use Rattle.std.proofs.Common.{◌≡◌, ℕ, ◌<◌, length, slice_get, Some, List}
use Rattle.code_flow.specs.declared.blocks.Spans.{Spans}
use Rattle.code_flow.specs.GoingTests.{AreExits}
use Rattle.code_flow.proofs.leaving.exits_of.Given as goal

-- those of the clauses so far
abbrev pub invariant-loop-place : goal.invariant-loop-place
invariant-loop-place l = (length l.exits ≡ l.place) × ((place : ℕ) (s : Spans) (e : List ℕ) → place < l.place → slice_get l.clauses place ≡ Some s → slice_get l.exits place ≡ Some e → AreExits l.clauses l.leaves place s e)
