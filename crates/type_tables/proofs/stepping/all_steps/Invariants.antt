use Rattle.std.proofs.Common.{take}
use Rattle.type_tables.specs.Landings.{HaveSteps}
use Rattle.type_hierarchy.specs.Tables.{hierarchy_in}
use Rattle.type_tables.proofs.stepping.all_steps.Given as goal

-- so far the steps of each declaration before this one
abbrev pub invariant-loop-declared : goal.invariant-loop-declared
invariant-loop-declared l = HaveSteps (hierarchy_in l.tables) l.tables.names (take l.declared-index l.tables.entries) l.all
