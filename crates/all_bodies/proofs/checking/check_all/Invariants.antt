use Rattle.std.proofs.Common.{◌≡◌, take}
use Rattle.type_hierarchy.specs.World.{hierarchy, Stays}
use Rattle.all_bodies.specs.Reporting.{AreFailures}
use Rattle.all_bodies.proofs.checking.check_all.Given as goal

abbrev pub ghost-check_method : goal.ghost-check_method
ghost-check_method g a = g.sources

abbrev pub invariant-loop-at : goal.invariant-loop-at
invariant-loop-at g l = record {
  stays : Stays l.fn.w l.w;
  found : AreFailures l.a (hierarchy l.fn.w) (take l.at-index l.at-items) l.report;
}
