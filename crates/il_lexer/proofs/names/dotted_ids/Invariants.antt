use Rattle.std.proofs.Common.{◌≡◌, ◌+◌, ◌-◌, ◌<◌, ◌≤◌, Some, length, take, drop}
use Rattle.il_lexer.specs.Runs.{run_of}
use Rattle.il_lexer.specs.Spellings.{dotted_part, name_length}
use Rattle.il_lexer.specs.WordKeys.{key_from}
use Rattle.il_lexer.proofs.names.dotted_ids.Given as goal

abbrev pub invariant-loop-name : goal.invariant-loop-name
invariant-loop-name l = record {
  some : 0 < l.name.length;
  within : l.name.length ≤ length l.rest;
  key : l.name.key ≡ key_from 0 (take l.name.length l.rest);
  name : name_length l.rest ≡ Some (l.name.length + (run_of dotted_part (drop l.name.length l.rest)).bytes);
}

abbrev pub decreases-loop-name : goal.decreases-loop-name
decreases-loop-name l = length l.rest - l.name.length
