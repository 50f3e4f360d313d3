use Rattle.std.proofs.Common.{◌≡◌, ◌++◌, drop}
use Rattle.sig_pool.specs.Key.{path_key}
use Rattle.sig_pool.proofs.shape.write_path.Given as goal

abbrev pub invariant-loop-id : goal.invariant-loop-id
invariant-loop-id l = l.key ++ path_key (drop l.id-index l.path) ≡ l.initial.key ++ path_key l.path
