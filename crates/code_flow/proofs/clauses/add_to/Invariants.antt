use Rattle.std.proofs.Common.{◌≡◌, length}
use Rattle.code_flow.specs.Regions.{AddsTo}
use Rattle.code_flow.proofs.clauses.add_to.Given as goal

abbrev pub invariant-loop-k : goal.invariant-loop-k
invariant-loop-k l = AddsTo l.first l.k l.place l.clause l.initial.regions.items l.regions.items × (length l.regions.items ≡ length l.initial.regions.items)
