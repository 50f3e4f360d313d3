use Rattle.std.proofs.Common.{◌≡◌, ◌-◌}
use Rattle.signature_equality.specs.Walking.{same_each, same_signed}
use Rattle.signature_equality.proofs.numbers.each_bound.Given as goal

abbrev pub invariant-loop : goal.invariant-loop
invariant-loop l = same_each same_signed (l.count - l.counter) (l.at.a.now, l.at.b.now) ≡ same_each same_signed l.count (l.initial.at.a.now, l.initial.at.b.now)
