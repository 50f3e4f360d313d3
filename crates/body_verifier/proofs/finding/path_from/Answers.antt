use Rattle.std.proofs.Common.{sym, ◌∙◌}
use Rattle.body_verifier.proofs.Walking.{starts_at, starts_nowhere}
use Rattle.body_verifier.proofs.finding.path_from.Goals as goal

pub returns-in-Some : goal.returns-in-Some
returns-in-Some c = λ t e. c.inner_path.ensures t (sym (starts_at c.args.a.now c.args.first c.args.rest.now c.in-Some.outer.now (sym c.in-Some.ensures)) ∙ e)

pub returns-in-None : goal.returns-in-None
returns-in-None c = λ t e. absurd (let f = sym e ∙ starts_nowhere c.args.a.now c.args.first c.args.rest.now (sym c.in-None.ensures) in let g : ⊥ = cc in g)
