use Rattle.std.proofs.Common.{◌≡◌, ◌-◌}
use Rattle.type_terms.specs.Hashing.{mix}
use Rattle.sig_codec.specs.Reading.{number_at}
use Rattle.signature_facts.specs.Scanning.{mixed_at}
use Rattle.signature_facts.proofs.numbers.each_size_at.Given as goal

abbrev pub invariant-loop : goal.invariant-loop
invariant-loop l = mixed_at number_at mix l.hash (l.count - l.counter) l.rest ≡ mixed_at number_at mix 0 l.count l.bytes
