use Rattle.std.proofs.Common.{length}
use Rattle.ilasm_grammar.specs.declared.productions.TheConstants.{NAME_OPT_SOME, PARAM_ATTR_STAR_MORE}
use Rattle.source_nodes.proofs.Walks.{Left}
use Rattle.lower_members.proofs.params.has_more.Given as goal

abbrev pub invariant-loop-node : goal.invariant-loop-node
invariant-loop-node l = record {
  named : Left l.nodes NAME_OPT_SOME l.left;
  flagged : Left l.nodes PARAM_ATTR_STAR_MORE l.left;
}

abbrev pub decreases-loop-node : goal.decreases-loop-node
decreases-loop-node l = length l.left
