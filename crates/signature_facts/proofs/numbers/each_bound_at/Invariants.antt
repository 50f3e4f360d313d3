use Rattle.std.proofs.Common.{◌≡◌, ◌-◌}
use Rattle.type_terms.specs.Hashing.{mix_bound}
use Rattle.sig_codec.specs.Reading.{signed_at}
use Rattle.signature_facts.specs.Scanning.{mixed_at}
use Rattle.signature_facts.proofs.numbers.each_bound_at.Given as goal

abbrev pub invariant-loop : goal.invariant-loop
invariant-loop l = mixed_at signed_at mix_bound l.hash (l.count - l.counter) l.rest ≡ mixed_at signed_at mix_bound 0 l.count l.bytes
