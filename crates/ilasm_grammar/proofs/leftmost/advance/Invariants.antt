use Rattle.std.proofs.Common.{◌<◌}
use Rattle.ilasm_grammar.specs.Choice.{load_of}
use Rattle.ilasm_grammar.specs.Ilasm.{ilasm_sets}
use Rattle.ilasm_grammar.specs.Parsing.{IsExtended}
use Rattle.ilasm_grammar.specs.Stacked.{symbols_at}
use Rattle.ilasm_grammar.proofs.leftmost.advance.Given as goal

abbrev pub invariant-loop-symbol : goal.invariant-loop-symbol
invariant-loop-symbol l = record {
  some : l.next < 887;
  extended : IsExtended l.terminal (symbols_at l.initial.next l.initial.behind) l.initial.nodes (symbols_at l.next l.behind) l.nodes;
}

abbrev pub decreases-loop-symbol : goal.decreases-loop-symbol
decreases-loop-symbol l = load_of ilasm_sets (symbols_at l.next l.behind)
