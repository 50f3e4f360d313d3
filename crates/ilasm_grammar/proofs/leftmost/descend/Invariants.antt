use Rattle.std.proofs.Common.{◌<◌}
use Rattle.ilasm_grammar.specs.Choice.{load_of}
use Rattle.ilasm_grammar.specs.Ilasm.{ilasm_sets}
use Rattle.ilasm_grammar.specs.Parsing.{IsExtended}
use Rattle.ilasm_grammar.specs.Stacked.{symbol_in, symbols_at, IsCellOf}
use Rattle.ilasm_grammar.proofs.leftmost.descend.Given as goal

abbrev pub invariant-loop-next : goal.invariant-loop-next
invariant-loop-next l = record {
  some : l.next < 887;
  here : IsCellOf l.terminal (symbol_in l.next) l.cell;
  extended : IsExtended l.terminal (symbols_at l.initial.next l.initial.behind) l.initial.nodes (symbols_at l.next l.behind) l.nodes;
}

abbrev pub decreases-loop-next : goal.decreases-loop-next
decreases-loop-next l = load_of ilasm_sets (symbols_at l.next l.behind)
