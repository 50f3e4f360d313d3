use Rattle.std.proofs.Common.{length}
use Rattle.il_lexer.specs.Spelled.{HasBytes}
use Rattle.source_nodes.proofs.ByteLemmas.{Coming}
use Rattle.source_nodes.proofs.values.byte_lists.bytes_in_parentheses.Given as goal

abbrev pub invariant-loop-high : goal.invariant-loop-high
invariant-loop-high l = HasBytes l.fn.text → Coming l.fn.text l.bytes l.rest

abbrev pub decreases-loop-high : goal.decreases-loop-high
decreases-loop-high l = length l.rest
