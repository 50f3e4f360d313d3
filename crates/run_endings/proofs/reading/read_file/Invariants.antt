use Rattle.std.proofs.Common.{length, ◌+◌, ◌-◌, ◌≡◌, ◌≤◌, List, ℕ, Some, take, IsTrue}
use Rattle.run_endings.proofs.reading.read_file.Given as goal

abbrev pub invariant-loop-count : goal.invariant-loop-count
invariant-loop-count g l = record {
  within : length l.file ≤ l.most;
  piece : length l.piece ≡ 65536;
  told : IsTrue (g.S.Shelf.tells l.fn.shelf) → (file : List ℕ) → g.S.Shelf.files l.fn.shelf l.name ≡ Some file
      → (l.file ≡ take (length l.file) file) × (length l.file ≤ length file);
  same_files : IsTrue (g.S.Shelf.tells l.fn.shelf) → g.S.Shelf.files l.shelf ≡ g.S.Shelf.files l.fn.shelf;
  same_tells : g.S.Shelf.tells l.shelf ≡ g.S.Shelf.tells l.fn.shelf;
  reads_stay : g.S.Shelf.failed_reads l.fn.shelf ≤ g.S.Shelf.failed_reads l.shelf;
  same_writes : g.S.Shelf.failed_writes l.shelf ≡ g.S.Shelf.failed_writes l.fn.shelf;
}

abbrev pub decreases-loop-count : goal.decreases-loop-count
decreases-loop-count g l = l.most + 1 - length l.file
