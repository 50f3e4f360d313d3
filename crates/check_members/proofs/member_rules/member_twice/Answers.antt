use Rattle.std.proofs.Common.{◌∙◌}
use Rattle.check_members.proofs.TwiceLemmas.{all_twice}
use Rattle.check_members.proofs.member_rules.member_twice.Goals as goal

pub returns : goal.returns
returns g c s r names owns same =
    c.sooner.ensures
    ∙ all_twice s c.in_ok-here.here c.in_ok-within.within (c.in_ok-here.ensures s r names owns same)
    (c.in_ok-within.ensures s s.tree r names owns same r.nodes (c.derivations_have_bodies.ensures s r.derived).1)
