use Rattle.std.proofs.Common.{◌↔◌, ◌<◌, length}
use Rattle.sig_pool.specs.Pool.{Extends}
use Rattle.type_order.specs.Answers.{RefersTo}
use Rattle.type_hierarchy.specs.Tables.{hierarchy_in}
use Rattle.type_order.specs.Found.{Knows}
use Rattle.type_order.proofs.fits.reference_fits.Given as goal

-- the two that are compared fit as those at the beginning
abbrev pub invariant-elements : goal.invariant-elements
invariant-elements l = record {
  left : l.from < length l.initial.pool;
  right : l.to < length l.initial.pool;
  extends : Extends l.initial.pool l.pool;
  known : Knows (hierarchy_in l.tables) l.pool l.found;
  same : RefersTo (hierarchy_in l.tables) l.initial.pool l.fn.a l.fn.b ↔ RefersTo (hierarchy_in l.tables) l.initial.pool l.from l.to;
}

abbrev pub decreases-elements : goal.decreases-elements
decreases-elements l = l.from
