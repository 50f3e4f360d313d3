-- Stacks that don't meet what an instruction asks of them (ECMA-335 III.1.5).
use Rattle.std.specs.Prelude.{◌≡◌, ℕ, ◌⊎◌, List, get_or, slice_get, Some}
use Rattle.type_hierarchy.specs.Hierarchy.{Hierarchy}
use Rattle.type_hierarchy.specs.Stack.{Stack, bad}
use Rattle.code_flow.specs.Demands.{Demand, HasWrongKind, FailsToAssign, AreMismatched, FailToStore}
use Rattle.code_flow.specs.Rows.{Row}
use Rattle.code_flow.specs.Effects.{taken}

-- the operand at a place is of a wrong kind
pub record IsWrongAt (k : ℕ) (w : Hierarchy) (r : Row) (s : List Stack) : Type 0 where
  pub demand : Demand
  pub asked : slice_get r.operands k ≡ Some demand
  pub wrong : HasWrongKind w demand (get_or (taken r s) k bad)

-- an operand is of a wrong kind
abbrev pub HasWrongOperand : Hierarchy → Row → List Stack → Type 0
HasWrongOperand w r s = (k : ℕ) × IsWrongAt k w r s

-- the operand at a place isn't assignable to what is demanded
pub record IsUnassignableAt (k : ℕ) (w : Hierarchy) (r : Row) (s : List Stack) : Type 0 where
  pub demand : Demand
  pub asked : slice_get r.operands k ≡ Some demand
  pub fails : FailsToAssign w demand (get_or (taken r s) k bad)

abbrev pub HasUnassignable : Hierarchy → Row → List Stack → Type 0
HasUnassignable w r s = (k : ℕ) × IsUnassignableAt k w r s

-- the second operand isn't assignable to what the first points to
abbrev pub IsUnstored : Hierarchy → Row → List Stack → Type 0
IsUnstored w r s = FailToStore w r.together (taken r s)

-- an operand isn't assignable to what is demanded, or to what the other points to
abbrev pub FailsToFit : Hierarchy → Row → List Stack → Type 0
FailsToFit w r s = HasUnassignable w r s ⊎ IsUnstored w r s

-- the operands don't go together
abbrev pub IsMismatched : Hierarchy → Row → List Stack → Type 0
IsMismatched w r s = AreMismatched w r.together (taken r s)
