use Rattle.std.proofs.Common.{◌∙◌, ap, sym}
use Rattle.source_model.specs.Forest.{preorder}
use Rattle.source_model.specs.Nodes.{nothing_around}
use Rattle.source_nodes.specs.Least.{least}
use Rattle.check_members.proofs.AccessorWalks.{all_undeclared}
use Rattle.check_members.proofs.OwnerLemmas.{no_owner}
use Rattle.check_source.proofs.not_declared.accessor_absent.Goals as goal

pub returns-then-not-has_owners : goal.returns-then-not-has_owners
returns-then-not-has_owners c s r names owns census breaks =
    sym (ap least (sym (all_undeclared s) ∙ no_owner s nothing_around s.tree (c.has_owners.ensures (preorder s.tree) census c.if-not-has_owners.true)))

pub returns : goal.returns
returns c s r names owns census breaks = c.in_ok-absent.ensures s r names owns breaks
