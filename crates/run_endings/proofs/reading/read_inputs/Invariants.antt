use Rattle.std.proofs.Common.{◌≡◌, ◌≤◌, IsTrue, take}
use Rattle.run_endings.specs.Reads.{AreRead}
use Rattle.run_endings.proofs.reading.read_inputs.Given as goal

abbrev pub invariant-loop-input : goal.invariant-loop-input
invariant-loop-input g l = record {
  read : AreRead (g.S.Shelf.tells l.fn.shelf) (g.S.Shelf.files l.fn.shelf) (take l.input-index l.inputs) l.given;
  same_files : IsTrue (g.S.Shelf.tells l.fn.shelf) → g.S.Shelf.files l.shelf ≡ g.S.Shelf.files l.fn.shelf;
  same_tells : g.S.Shelf.tells l.shelf ≡ g.S.Shelf.tells l.fn.shelf;
  reads_stay : g.S.Shelf.failed_reads l.fn.shelf ≤ g.S.Shelf.failed_reads l.shelf;
  same_writes : g.S.Shelf.failed_writes l.shelf ≡ g.S.Shelf.failed_writes l.fn.shelf;
}
