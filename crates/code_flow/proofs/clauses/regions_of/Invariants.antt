use Rattle.std.proofs.Common.{take}
use Rattle.code_flow.specs.Regions.{HaveRegions}
use Rattle.code_flow.proofs.clauses.regions_of.Given as goal

abbrev pub invariant-loop-place : goal.invariant-loop-place
invariant-loop-place l = HaveRegions (take l.place l.clauses) l.regions.items
