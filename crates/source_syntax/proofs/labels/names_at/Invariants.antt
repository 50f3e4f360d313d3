use Rattle.std.proofs.Common.{◌≡◌, ℕ, List, ◌++◌, map, length}
use Rattle.source_model.specs.Source.{Source}
use Rattle.source_model.specs.Values.{name_text}
use Rattle.source_syntax.specs.Methods.{AreNames}
use Rattle.source_nodes.specs.Readers.{Reads}
use Rattle.source_syntax.proofs.labels.names_at.Given as goal

abbrev pub invariant-loop-token : goal.invariant-loop-token
invariant-loop-token l =
    (done : List ℕ) × (l.left ++ done ≡ l.tokens)
    × ((s : Source) → Reads l.reader s → AreNames s l.tokens → l.names ≡ map (name_text s) done)

abbrev pub decreases-loop-token : goal.decreases-loop-token
decreases-loop-token l = length l.left
