use Rattle.std.proofs.Common.{◌≤◌, ◌-◌, List, length, map}
use Rattle.std.specs.List.Sorted.{IsNonDecreasing}
use Rattle.source_model.specs.Forest.{Part}
use Rattle.source_model.specs.Instructions.{mnemonic_token}
use Rattle.source_nodes.specs.Pieces.{ArePieces}
use Rattle.lower_bodies.proofs.Halves.{AreLess, AreNotLess}
use Rattle.lower_bodies.proofs.code_places.number_before.Given as goal

-- the instructions before `low` begin before the token, those from `high` on don't
abbrev pub invariant-loop-low : goal.invariant-loop-low
invariant-loop-low l = record {
  order : l.low ≤ l.high;
  bound : l.high ≤ length l.instructions;
  before : (ps : List Part) → ArePieces l.nodes l.instructions ps → IsNonDecreasing (map mnemonic_token ps) → AreLess l.token l.low (map mnemonic_token ps);
  after : (ps : List Part) → ArePieces l.nodes l.instructions ps → IsNonDecreasing (map mnemonic_token ps) → AreNotLess l.token l.high (map mnemonic_token ps);
}

abbrev pub decreases-loop-low : goal.decreases-loop-low
decreases-loop-low l = l.high - l.low
