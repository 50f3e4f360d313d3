use Rattle.body_codec.specs.Reading.{StartsTo}
use Rattle.body_codec.proofs.decoding.layout.read_starts.Given as goal

abbrev pub invariant-loop-k : goal.invariant-loop-k
invariant-loop-k l = StartsTo l.code l.marks l.k l.starts
