-- The stack after an instruction (ECMA-335 III.1.5). What was pushed first stands first.
use Rattle.std.specs.Prelude.{ℕ, ◌-◌, if◌then◌else◌, List, [], ◌++◌, map, length, take, drop, replicate}
use Rattle.type_hierarchy.specs.Stack.{Stack, bad}
use Rattle.code_flow.specs.Rows.{Row, given}

-- the last `n` values of a stack; those that are missing count as Bad
abbrev pub operands_of : ℕ → List Stack → List Stack
operands_of n s = replicate (n - length s) bad ++ drop (length s - n) s

-- what stays below them
abbrev pub below_operands : ℕ → List Stack → List Stack
below_operands n s = take (length s - n) s

abbrev pub taken : Row → List Stack → List Stack
taken r s = operands_of (length r.operands) s

abbrev pub results : Row → List Stack → List Stack
results r s = map (given (taken r s)) r.pushed

-- the stack once the operands have given way to values
abbrev pub left_with : Row → List Stack → List Stack → List Stack
left_with r s values = if r.empties then [] else below_operands (length r.operands) s ++ values

-- the stack afterwards
abbrev pub effect : Row → List Stack → List Stack
effect r s = left_with r s (results r s)
