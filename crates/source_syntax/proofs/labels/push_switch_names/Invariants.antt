use Rattle.std.proofs.Common.{◌≡◌, List, ◌++◌, take}
use Rattle.std.specs.List.{flat_map}
use Rattle.source_model.specs.Forest.{Part}
use Rattle.source_model.specs.Instructions.{names_in}
use Rattle.source_nodes.specs.Pieces.{ArePieces}
use Rattle.source_syntax.proofs.labels.push_switch_names.Given as goal

abbrev pub invariant-loop-list : goal.invariant-loop-list
invariant-loop-list l = (ps : List Part) → ArePieces l.below l.list-items ps → l.tokens ≡ l.fn.tokens ++ flat_map (λ p. names_in p.below) (take l.list-index ps)
