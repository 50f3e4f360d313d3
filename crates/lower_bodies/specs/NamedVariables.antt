-- Parameters and locals that have names, each with its number (ECMA-335 II.15.4.1.3, III.3.38, III.3.43).
use Rattle.std.specs.Prelude.{◌≡◌, Bool, ℕ, ◌+◌, ◌==◌, if◌then◌else◌, List, [], ◌∷◌, map}
use Rattle.std.specs.List.{enumerate_from, flat_map, list_any}
use Rattle.ilasm_grammar.specs.declared.productions.TheConstants.{INSTRUCTION_OP_VAR, NAME_OPT_SOME}
use Rattle.source_model.specs.Forest.{Forest, child, has, leaf_at}
use Rattle.source_model.specs.Instructions.{instructions_of}
use Rattle.source_model.specs.Parameters.{parameters}
use Rattle.source_model.specs.Source.{Source}
use Rattle.source_model.specs.Values.{name_text}
use Rattle.source_model.specs.Variables.{first_argument, locals}
use Rattle.lower_bodies.specs.declared.variables.Numbered.{Numbered}
use Rattle.lower_bodies.specs.declared.variables.Variables.{Variables}

-- the token of the name of a parameter or a local that has one
abbrev pub name_of : Forest → List ℕ
name_of f = if has NAME_OPT_SOME f then leaf_at 0 (child (NAME_OPT_SOME ∷ []) f) ∷ [] else []

abbrev pub names_of : List Forest → List ℕ
names_of fs = flat_map name_of fs

-- the number of one that has a name
abbrev pub number_if_named : ℕ → Forest → List ℕ
number_if_named number f = if has NAME_OPT_SOME f then number ∷ [] else []

-- those of the named, where this is the number of the first
abbrev pub numbers_from : ℕ → ℕ → List Forest → List ℕ
numbers_from first at fs = flat_map (λ k. number_if_named (first + k.0) k.1) (enumerate_from at fs)

-- these are the named among some parameters or locals, with their numbers, where this is the number of the first
pub record AreNumbered (x : Numbered) (s : Source) (first : ℕ) (fs : List Forest) : Type 0 where
  pub names-are : x.names ≡ map (name_text s) (names_of fs)
  pub numbers-are : x.numbers ≡ numbers_from first 0 fs

-- these are the named arguments and locals of a method
pub record AreVariables (x : Variables) (s : Source) (f : Forest) : Type 0 where
  pub arguments-are : AreNumbered x.arguments s (first_argument f) (parameters f)
  pub locals-are : AreNumbered x.locals s 0 (locals f)

-- an instruction of a method takes an argument or a local
abbrev pub takes_variables : Forest → Bool
takes_variables f = list_any (λ p. p.production == INSTRUCTION_OP_VAR) (instructions_of f)
