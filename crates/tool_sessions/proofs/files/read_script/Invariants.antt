use Rattle.std.proofs.Common.{◌≤◌, ◌≡◌, ◌-◌, length}
use Rattle.tool_sessions.proofs.files.read_script.Given as goal

abbrev pub invariant-loop-piece : goal.invariant-loop-piece
invariant-loop-piece l = (length l.file ≤ 1114112) × (length l.piece ≡ 65536)

abbrev pub decreases-loop-piece : goal.decreases-loop-piece
decreases-loop-piece l = 1114112 - length l.file
