use Rattle.std.proofs.Common.{◌≡◌, ◌<◌, ℕ, [], get_or, rules}
use Rattle.metadata_tables.proofs.AddedRows.{none, are_none}
use Rattle.metadata_tables.proofs.rows.Rows.new.Goals as goal
use Rattle.metadata_tables.proofs.rows.Rows.new.Goals.{After-from_fn}

each : (c : After-from_fn) (t : ℕ) → t < 45 → get_or c.from_fn.result t [] ≡ []
each c t h = let w = c.from_fn.ensures.items.at t [] h in search (rules, w.2)

pub invariant_of-result : goal.invariant_of-result
invariant_of-result c = are_none c.from_fn.result c.from_fn.ensures.items.long (each c)

pub returns : goal.returns
returns c = none c.from_fn.result c.from_fn.ensures.items.long (each c)
