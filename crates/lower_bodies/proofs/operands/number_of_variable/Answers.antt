use Rattle.std.proofs.Common.{subst}
use Rattle.std.specs.Prelude.{MatchOption}
use Rattle.lower_bodies.specs.NamedVariables.{AreVariables}
use Rattle.lower_bodies.proofs.operands.number_of_variable.Goals as goal

pub returns-in-Some : goal.returns-in-Some
returns-in-Some c s a f p x takes fits bodies e within =
    let are = subst (λ o. MatchOption o ⊥ (λ v. AreVariables v.now s f)) c.in-Some.is (x.variables takes) in
    c.variable_number.ensures s f p x.at.reads are fits bodies e within

pub returns-in-None : goal.returns-in-None
returns-in-None c s a f p x takes fits bodies e within =
    absurd (subst (λ o. MatchOption o ⊥ (λ v. AreVariables v.now s f)) c.in-None.is (x.variables takes))
