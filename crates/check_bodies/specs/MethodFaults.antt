-- What is at fault in a method: in its labels, and in the operands of its instructions.
use Rattle.std.specs.Prelude.{◌≡◌, ℕ, List, ◌++◌}
use Rattle.std.specs.List.{flat_map}
use Rattle.source_model.specs.Instructions.{instructions_of}
use Rattle.source_model.specs.Nodes.{Node}
use Rattle.source_model.specs.Source.{Source}
use Rattle.source_nodes.specs.Least.{least}
use Rattle.check_bodies.specs.AllOfBodies.{ends_in, far_in, twice_in, undeclared_in, variables_in}
use Rattle.check_bodies.specs.OperandRanges.{operand_at_fault}
use Rattle.check_bodies.specs.declared.bodies.OperandFaults.{OperandFaults}

-- labels that stand twice, and names of labels that aren't declared, are too far or stand at the end
abbrev pub naming_in : Source → Node → List ℕ
naming_in s n = (twice_in s n ++ undeclared_in s n) ++ far_in s n ++ ends_in s n

pub record AreOperandFaults (s : Source) (n : Node) (x : OperandFaults) : Type 0 where
  pub variable-is : x.variable ≡ least (variables_in s n)
  pub number-is : x.number ≡ least (flat_map (operand_at_fault s n.below) (instructions_of n.below))
