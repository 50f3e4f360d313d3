use Rattle.std.proofs.Common.{◌≡◌, ◌++◌, drop}
use Rattle.lower_manifest.proofs.Among.{chosen}
use Rattle.lower_manifest.proofs.chosen.pieces_among.Given as goal

abbrev pub invariant-loop-piece : goal.invariant-loop-piece
invariant-loop-piece l = l.some ++ chosen l.kind (drop l.piece-index l.found) ≡ chosen l.kind l.found
