use Rattle.std.proofs.Common.{◌≡◌, length}
use Rattle.signature_facts.specs.Scanning.{OwnersFacts}
use Rattle.spec_facts.specs.Rounds.{TellsSpecs, IsSound, unknown}
use Rattle.spec_facts.proofs.spec_table.facts_of_specs.Given as goal

abbrev pub invariant-rounds : goal.invariant-rounds
invariant-rounds g l =
    (length l.facts.items ≡ length l.distinct.heads)
    × ((true_map : OwnersFacts) → TellsSpecs l.image (g.N.Owners.facts l.names) true_map → IsSound l.image true_map l.distinct.heads l.facts.items)

abbrev pub decreases-rounds : goal.decreases-rounds
decreases-rounds g l = unknown l.facts.items
