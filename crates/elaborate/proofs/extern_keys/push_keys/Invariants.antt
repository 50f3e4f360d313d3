use Rattle.std.proofs.Common.{◌≡◌, [], ◌∷◌, ◌++◌, map, take}
use Rattle.ilasm_grammar.specs.declared.productions.TheConstants.{ASSEMBLY_EXTERN}
use Rattle.source_model.specs.Forest.{Forest, parts, preorder}
use Rattle.source_model.specs.Names.{key_token}
use Rattle.elaborate.proofs.extern_keys.push_keys.Given as goal

abbrev pub invariant-loop-piece : goal.invariant-loop-piece
invariant-loop-piece l = (f : Forest) → preorder f ≡ l.nodes → l.tokens ≡ l.initial.tokens ++ map (λ p. key_token p.below) (take l.piece-index (parts (ASSEMBLY_EXTERN ∷ []) f))
