use Rattle.std.proofs.Common.{take}
use Rattle.hash_places.specs.Slots.{place_of}
use Rattle.print_terms.specs.Chains.{IsChained}
use Rattle.print_terms.specs.Names.{name_hash}
use Rattle.print_terms.proofs.repeats.chains_of.Given as goal

abbrev pub invariant-loop-e : goal.invariant-loop-e
invariant-loop-e l = IsChained name_hash (place_of l.newest) (take l.e-index l.externs) l.nexts
