use Rattle.std.proofs.Common.{◌≤◌, ◌≡◌, ◌-◌, length}
use Rattle.cases_listing.proofs.files.read_file.Given as goal

abbrev pub invariant-loop-piece : goal.invariant-loop-piece
invariant-loop-piece l = (length l.file ≤ 134283264) × (length l.piece ≡ 65536)

abbrev pub decreases-loop-piece : goal.decreases-loop-piece
decreases-loop-piece l = 134283264 - length l.file
