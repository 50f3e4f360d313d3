-- What a source that breaks no rule says of a method with a body: it is derived, and its numbers are in their ranges
-- (ECMA-335 II.15.4, II.25.4, III.1.7.2, III.3.40).
use Rattle.std.specs.Prelude.{◌≡◌, [], true}
use Rattle.std.specs.List.{flat_map}
use Rattle.ilasm_grammar.specs.declared.productions.TheConstants.{INSTRUCTION_OP_REAL, INSTRUCTION_OP_VAR, METHOD}
use Rattle.source_model.specs.BodyNumbers.{bounds_out_of_range, real_out_of_range, variable_out_of_range}
use Rattle.source_model.specs.Forest.{Forest, Part}
use Rattle.source_model.specs.Instructions.{instructions_with}
use Rattle.source_model.specs.Source.{Source}
use Rattle.source_flags.specs.InRange.{AllInRange, IsInRange}
use Rattle.source_syntax.specs.Methods.{IsDerived}
use Rattle.lower_bodies.specs.NamedVariables.{takes_variables}

-- the numbers of a method and of its parts are in their ranges
pub record IsMethodInRange (s : Source) (f : Forest) : Type 0 where
  pub derived : IsDerived s METHOD f
  pub each : AllInRange s f
  pub bounds : bounds_out_of_range s f ≡ []
  pub reals : flat_map (real_out_of_range s) (instructions_with INSTRUCTION_OP_REAL f) ≡ []
  pub variables : flat_map (variable_out_of_range s f) (instructions_with INSTRUCTION_OP_VAR f) ≡ []

-- and those of one of its instructions
pub record IsInstructionInRange (s : Source) (f : Forest) (p : Part) : Type 0 where
  pub own : IsInRange s p.production p.below
  pub each : AllInRange s p.below
  pub real : p.production ≡ INSTRUCTION_OP_REAL → real_out_of_range s p ≡ []
  pub variable : p.production ≡ INSTRUCTION_OP_VAR → variable_out_of_range s f p ≡ []
  pub takes : p.production ≡ INSTRUCTION_OP_VAR → takes_variables f ≡ true
