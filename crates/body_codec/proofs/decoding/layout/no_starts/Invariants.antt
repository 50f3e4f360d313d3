use Rattle.std.proofs.Common.{◌≡◌, replicate}
use Rattle.body_codec.proofs.decoding.layout.no_starts.Given as goal

abbrev pub invariant-loop : goal.invariant-loop
invariant-loop l = l.starts ≡ replicate l.counter 0xFFFFFFFF
