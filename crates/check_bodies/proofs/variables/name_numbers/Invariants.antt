use Rattle.std.proofs.Common.{◌≡◌, ◌+◌, List, [], ◌++◌, take}
use Rattle.std.specs.List.{enumerate_from, flat_map}
use Rattle.source_model.specs.Forest.{Part}
use Rattle.source_nodes.specs.Pieces.{ArePieces}
use Rattle.check_bodies.specs.NamedVariables.{number_if_named}
use Rattle.check_bodies.proofs.variables.name_numbers.Given as goal

abbrev pub invariant-loop-k : goal.invariant-loop-k
invariant-loop-k l = (ps : List Part) → ArePieces l.nodes l.found ps → l.numbers ≡ [] ++ flat_map (λ k. number_if_named (l.first + k.0) k.1.below) (take l.k (enumerate_from 0 ps))
