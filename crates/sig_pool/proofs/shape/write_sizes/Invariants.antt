use Rattle.std.proofs.Common.{◌≡◌, ◌++◌, take}
use Rattle.sig_pool.proofs.shape.write_sizes.Given as goal

abbrev pub invariant-loop-size : goal.invariant-loop-size
invariant-loop-size l = l.key ≡ l.initial.key ++ take l.size-index l.sizes
