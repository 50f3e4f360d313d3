use Rattle.std.proofs.Common.{◌≡◌, ◌++◌, drop}
use Rattle.std.specs.Prelude.{false}
use Rattle.lower_manifest.proofs.RunLemmas.{outside}
use Rattle.lower_manifest.proofs.runs.own_customs.Given as goal

abbrev pub invariant-loop-piece : goal.invariant-loop-piece
invariant-loop-piece l = l.own ++ outside l.in_run (drop l.piece-index l.found) ≡ outside false l.found
