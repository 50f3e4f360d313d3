use Rattle.std.proofs.Common.{length, ◌-◌, ◌≡◌, ◌≤◌, Some, take, IsTrue}
use Rattle.il_base.specs.Outside.{ChangesOnly}
use Rattle.run_endings.proofs.output.append_all.Given as goal

abbrev pub invariant-loop-done : goal.invariant-loop-done
invariant-loop-done g l = record {
  within : l.done ≤ length l.bytes;
  told : IsTrue (g.S.Shelf.tells l.fn.shelf) → g.S.Shelf.files l.shelf l.name ≡ Some (take l.done l.bytes);
  others : IsTrue (g.S.Shelf.tells l.fn.shelf) → ChangesOnly l.name (g.S.Shelf.files l.fn.shelf) (g.S.Shelf.files l.shelf);
  same_tells : g.S.Shelf.tells l.shelf ≡ g.S.Shelf.tells l.fn.shelf;
  writes_stay : g.S.Shelf.failed_writes l.fn.shelf ≤ g.S.Shelf.failed_writes l.shelf;
  same_reads : g.S.Shelf.failed_reads l.shelf ≡ g.S.Shelf.failed_reads l.fn.shelf;
}

abbrev pub decreases-loop-done : goal.decreases-loop-done
decreases-loop-done g l = length l.bytes - l.done
