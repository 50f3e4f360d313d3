use Rattle.std.proofs.Common.{length, ◌-◌}
use Rattle.source_flags.specs.Lines.{productions_of}
use Rattle.source_flags.specs.declared.gathering.Kind.TheVariants.{Members}
use Rattle.source_flags.proofs.PastShut.{Gathered}
use Rattle.elaborate.specs.HeadForms.{head_forms}
use Rattle.elaborate.proofs.gathering.gather_members.Given as goal

abbrev pub invariant-loop-node : goal.invariant-loop-node
invariant-loop-node l = Gathered l.nodes head_forms (productions_of Members) l.at l.found

abbrev pub decreases-loop-node : goal.decreases-loop-node
decreases-loop-node l = length l.nodes - l.at
