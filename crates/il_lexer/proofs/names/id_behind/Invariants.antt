use Rattle.std.proofs.Common.{◌≡◌, ◌+◌, ◌-◌, ◌≤◌, length, take, drop}
use Rattle.il_lexer.specs.Classes.{is_id_part}
use Rattle.il_lexer.specs.Runs.{front}
use Rattle.il_lexer.specs.WordKeys.{key_from}
use Rattle.il_lexer.proofs.names.id_behind.Given as goal

abbrev pub invariant-loop-now : goal.invariant-loop-now
invariant-loop-now l = record {
  within : l.now.length ≤ length l.rest;
  long : l.now.length + front is_id_part (drop l.now.length l.rest) ≡ l.fn.start.length + front is_id_part (drop l.fn.start.length l.rest);
  key : l.now.key ≡ key_from 0 (take l.now.length l.rest);
}

abbrev pub decreases-loop-now : goal.decreases-loop-now
decreases-loop-now l = length l.rest - l.now.length
