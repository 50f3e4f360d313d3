use Rattle.type_hierarchy.specs.Tables.{hierarchy_in}
use Rattle.type_order.proofs.FitIds.{equal_ids, null_fits}
use Rattle.type_order.proofs.WalkLemmas.{false_apart}
use Rattle.type_order.proofs.fits.is_assignable.Goals as goal

pub returns-then-is_equal-clause-ok : goal.returns-then-is_equal-clause-ok
returns-then-is_equal-clause-ok c = rw c.is_bad.ensures (equal_ids (hierarchy_in c.args.tables.now) c.args.pool.now c.args.s.now c.args.t.now (c.is_equal.ensures.0 c.if-is_equal.true))

pub returns-in-Boxed-clause-ok : goal.returns-in-Boxed-clause-ok
returns-in-Boxed-clause-ok c = rw c.is_null.ensures (null_fits (hierarchy_in c.args.tables.now) c.args.pool.now c.args.s.now c.args.t.now c.in-Boxed.field-0 c.in-Boxed.is (false_apart c.is_equal.ensures c.if-is_equal.false))
