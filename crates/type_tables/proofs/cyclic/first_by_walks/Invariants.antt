use Rattle.std.proofs.Common.{ℕ, ◌<◌}
use Rattle.type_tables.proofs.CycleLemmas.{Tried}
use Rattle.type_tables.proofs.cyclic.first_by_walks.Given as goal

-- steps lead back to none before this one
abbrev pub invariant-loop-k : goal.invariant-loop-k
invariant-loop-k l = (j : ℕ) → j < l.k-counter → Tried l.steps j
