use Rattle.std.proofs.Common.{◌≡◌, length, None}
use Rattle.std.specs.List.{All}
use Rattle.body_codec.proofs.encoding.draft.wait_for_none.Given as goal

abbrev pub invariant-loop : goal.invariant-loop
invariant-loop l = record {
  count : length l.latest ≡ l.counter;
  none : All (λ o. o ≡ None) l.latest;
}
