use Rattle.std.proofs.Common.{◌≡◌, drop}
use Rattle.assembly_tree.specs.DataSize.{named}
use Rattle.assembly_tree.proofs.sizes.named.Given as goal

abbrev pub invariant-loop-of : goal.invariant-loop-of
invariant-loop-of l = named l.id l.types ≡ named l.id (drop l.of-index l.types)
