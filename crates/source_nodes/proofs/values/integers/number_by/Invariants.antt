use Rattle.std.proofs.Common.{◌≡◌, take}
use Rattle.source_model.specs.Values.{number_by}
use Rattle.source_nodes.proofs.values.integers.number_by.Given as goal

abbrev pub invariant-loop-digit : goal.invariant-loop-digit
invariant-loop-digit l = l.value ≡ number_by l.base (take l.digit-index l.digits)
