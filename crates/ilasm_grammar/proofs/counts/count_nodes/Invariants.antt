use Rattle.std.proofs.Common.{◌≡◌, ◌++◌, drop, take, sum}
use Rattle.ilasm_grammar.specs.Counts.{counted, sizes_of}
use Rattle.ilasm_grammar.specs.Ilasm.{ilasm}
use Rattle.ilasm_grammar.proofs.counts.count_nodes.Given as goal

abbrev pub invariant-loop-k : goal.invariant-loop-k
invariant-loop-k l = record {
  nodes : l.nodes ≡ take l.k l.initial.nodes ++ counted ilasm (drop l.k l.initial.nodes);
  first : l.first ≡ sum (take 1 (sizes_of ilasm (drop l.k l.initial.nodes)));
}
