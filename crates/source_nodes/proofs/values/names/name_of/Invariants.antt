use Rattle.std.proofs.Common.{length}
use Rattle.il_lexer.specs.Spelled.{IsName}
use Rattle.source_model.specs.Values.{part_texts}
use Rattle.source_nodes.proofs.NameLemmas.{Parts}
use Rattle.source_nodes.proofs.values.names.name_of.Given as goal

abbrev pub invariant-loop-rest : goal.invariant-loop-rest
invariant-loop-rest l = IsName l.spelling → Parts (part_texts l.spelling) l.text l.last l.rest

abbrev pub decreases-loop-rest : goal.decreases-loop-rest
decreases-loop-rest l = length l.rest
