use Rattle.std.proofs.Common.{◌≡◌, ◌+◌, ◌-◌, drop}
use Rattle.ilasm_grammar.specs.Counts.{hops}
use Rattle.ilasm_grammar.proofs.counts.size_of.Given as goal

abbrev pub invariant-loop-k : goal.invariant-loop-k
invariant-loop-k l = l.end + hops (l.trees - l._k) (drop l.end l.nodes) ≡ l.at + hops l.trees (drop l.at l.nodes)
