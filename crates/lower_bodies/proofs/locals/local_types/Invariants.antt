use Rattle.std.proofs.Common.{◌≡◌, map, take, [], ◌∷◌}
use Rattle.ilasm_grammar.specs.declared.productions.TheConstants.{LOCAL}
use Rattle.source_model.specs.Forest.{Forest, parts}
use Rattle.source_model.specs.Nodes.{Around}
use Rattle.source_model.specs.Source.{Source}
use Rattle.source_model.specs.Types.{the_type}
use Rattle.source_nodes.specs.Pieces.{ArePieces}
use Rattle.source_syntax.specs.Places.{IsAt}
use Rattle.source_flags.specs.InRange.{AllInRange}
use Rattle.lower_bodies.proofs.locals.local_types.Given as goal

abbrev pub invariant-loop-piece : goal.invariant-loop-piece
invariant-loop-piece l = (s : Source) (a : Around) (f : Forest) → IsAt l.place s a → AllInRange s f → ArePieces l.nodes l.found (parts (LOCAL ∷ []) f)
    → l.all ≡ map (λ p. the_type s a p.below) (take l.piece-index (parts (LOCAL ∷ []) f))
