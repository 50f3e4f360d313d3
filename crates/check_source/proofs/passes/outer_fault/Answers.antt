use Rattle.std.proofs.Common.{◌∙◌, sym}
use Rattle.source_model.specs.Forest.{preorder}
use Rattle.check_source.proofs.OuterMembers.{no_outer_twice}
use Rattle.check_source.proofs.passes.outer_fault.Goals as goal

pub returns-then-not-has_outer_members : goal.returns-then-not-has_outer_members
returns-then-not-has_outer_members c s r names owns census breaks =
    no_outer_twice s c.orders_are_total.ensures.terms (sym (c.has_outer_members.ensures (preorder s.tree) census) ∙ c.if-not-has_outer_members.true)

pub returns : goal.returns
returns c s r names owns census breaks = c.in_ok-first.ensures s r names owns breaks
