-- The rows of parameters (ECMA-335 II.15.4, II.22.33).
use Rattle.std.specs.Prelude.{◌≡◌, ◌⊎◌, ℕ, if◌then◌else◌, List, [], ◌∷◌}
use Rattle.assembly_tree.specs.declared.members.Param.{Param}
use Rattle.ilasm_grammar.specs.declared.productions.TheConstants.{DEF_ARG}
use Rattle.source_flags.specs.InRange.{IsInRange}
use Rattle.source_model.specs.Forest.{Forest, none}
use Rattle.source_model.specs.Items.{Run}
use Rattle.source_model.specs.Nodes.{Around}
use Rattle.source_model.specs.Parameters.{has_row, row}
use Rattle.source_model.specs.Source.{Source}

-- what stands below the production of a parameter; nothing for the return value
abbrev pub IsParameter : Source → Forest → Type 0
IsParameter s f = (f ≡ none) ⊎ IsInRange s DEF_ARG f

-- the row of a parameter, where it has one, with the lines that speak of it
abbrev pub row_with : Source → Around → ℕ → Forest → List Run → List Param
row_with s a number f own = if has_row own f then row s a number f own ∷ [] else []
