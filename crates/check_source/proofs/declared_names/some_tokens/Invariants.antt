use Rattle.std.proofs.Common.{◌≡◌, ◌≤◌, length}
use Rattle.source_model.specs.Forest.{Forest, preorder}
use Rattle.source_syntax.specs.Namings.{production_of}
use Rattle.source_nodes.specs.Walk.{IsForest}
use Rattle.source_syntax.proofs.NamingLemmas.{Names}
use Rattle.check_source.proofs.CensusLemmas.{count_of}
use Rattle.check_source.proofs.declared_names.some_tokens.Given as goal

abbrev pub invariant-loop-more : goal.invariant-loop-more
invariant-loop-more l = record {
  forest : IsForest l.left;
  so_far : (f : Forest) → preorder f ≡ l.nodes → l.production ≡ production_of l.naming → Names l.naming f l.left l.found;
  enough : l.fn.most ≡ count_of l.production l.nodes → count_of l.production l.left ≤ l.more;
}

abbrev pub decreases-loop-more : goal.decreases-loop-more
decreases-loop-more l = length l.left
