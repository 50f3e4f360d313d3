use Rattle.std.proofs.Common.{◌≡◌, drop}
use Rattle.sig_codec.specs.Reading.{after_types}
use Rattle.sig_codec.proofs.measure.+measure.Given as goal

abbrev pub invariant-after_types-loop-of : goal.invariant-after_types-loop-of
invariant-after_types-loop-of l = after_types l.types l.limit l.nodes ≡ after_types (drop l.of-index l.types) l.limit l.left
