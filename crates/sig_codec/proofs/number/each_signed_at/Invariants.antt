use Rattle.std.proofs.Common.{◌≡◌, ◌-◌}
use Rattle.sig_codec.specs.Reading.{each_at, signed_at}
use Rattle.sig_codec.proofs.Loop.{with_front}
use Rattle.sig_codec.proofs.number.each_signed_at.Given as goal

abbrev pub invariant-loop : goal.invariant-loop
invariant-loop l = with_front l.numbers (each_at signed_at (l.count - l.counter) l.rest) ≡ each_at signed_at l.count l.bytes
