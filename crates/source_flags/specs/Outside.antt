-- The productions that are gone past where no part of a kind stands in them.
use Rattle.std.specs.Prelude.{ℕ, List, [], ◌∷◌}
use Rattle.ilasm_grammar.specs.declared.productions.TheConstants.{CLASS, ITEM_INSTRUCTION, METHOD}
use Rattle.source_flags.specs.declared.outside.Shut.{Shut}
use Rattle.source_flags.specs.declared.outside.Shut.TheVariants.{Types, Methods, Instructions}

abbrev pub shut_of : Shut → List ℕ
shut_of Types = CLASS ∷ METHOD ∷ []
shut_of Methods = METHOD ∷ []
shut_of Instructions = ITEM_INSTRUCTION ∷ []
