use Rattle.std.proofs.Common.{refl, subst, sym}
use Rattle.elaborate.specs.Standing.{HaveNeither}
use Rattle.elaborate.proofs.PlainLemmas.{none_stands}
use Rattle.elaborate.proofs.standing.standing_of.Goals as goal

pub returns-then-none : goal.returns-then-none
returns-then-none c f is =
    none_stands c.args.first c.args.second f _ refl refl
    (subst (HaveNeither c.args.first c.args.second) (sym is) (c.requires.none c.if-none.true))
