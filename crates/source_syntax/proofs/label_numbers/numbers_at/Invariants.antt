use Rattle.std.proofs.Common.{◌≡◌, map, take}
use Rattle.std.specs.List.Sorted.{IsNonDecreasing}
use Rattle.source_syntax.specs.Labels.{count_below}
use Rattle.source_syntax.proofs.label_numbers.numbers_at.Given as goal

abbrev pub invariant-loop-token : goal.invariant-loop-token
invariant-loop-token l = IsNonDecreasing l.starts → l.numbers ≡ map (λ k. count_below k l.starts) (take l.token-index l.tokens)
