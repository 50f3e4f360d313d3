use Rattle.std.proofs.Common.{◌≡◌, drop}
use Rattle.std.specs.List.{list_all}
use Rattle.body_codec.specs.Written.{serves_small}
use Rattle.body_codec.proofs.encoding.section.each_serves_small.Given as goal

abbrev pub invariant-loop-row : goal.invariant-loop-row
invariant-loop-row l = list_all serves_small l.rows ≡ list_all serves_small (drop l.row-index l.rows)
