-- What follows of a source that breaks no rule.
use Rattle.ilasm_grammar.specs.Parsing.{IsTreeOf}
use Rattle.source_model.specs.Denotes.{broken}
use Rattle.source_model.specs.Faults.{IsFaultless}
use Rattle.source_model.specs.Forest.{preorder}
use Rattle.source_model.specs.Source.{Source}
use Rattle.lower_methods.specs.SoundMethods.{AllWhole}

-- in a derivation that breaks no rule all productions are in range, and all methods with their bodies
abbrev pub AllAreWhole : Type 0
AllAreWhole = (s : Source) → IsTreeOf s.tokens (preorder s.tree) → IsFaultless (broken s) → AllWhole s s.tree
