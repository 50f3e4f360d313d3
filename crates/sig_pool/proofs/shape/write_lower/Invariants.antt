use Rattle.std.proofs.Common.{◌≡◌, ◌++◌, drop}
use Rattle.sig_pool.specs.Key.{all_signed_key}
use Rattle.sig_pool.proofs.shape.write_lower.Given as goal

abbrev pub invariant-loop-bound : goal.invariant-loop-bound
invariant-loop-bound l = l.key ++ all_signed_key (drop l.bound-index l.lower) ≡ l.initial.key ++ all_signed_key l.lower
