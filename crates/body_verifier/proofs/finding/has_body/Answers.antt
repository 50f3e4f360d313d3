use Rattle.std.proofs.Common.{sym, ◌∙◌}
use Rattle.body_verifier.proofs.Walking.{leads_some, led_some, led_nowhere}
use Rattle.body_verifier.proofs.finding.has_body.Goals as goal

pub returns-in-Some : goal.returns-in-Some
returns-in-Some c = (
  λ e. leads_some c.args.a.now c.args.at.now c.in-Some.method.now c.in-Some.ensures (sym c.is_some.ensures ∙ e),
  λ l. c.is_some.ensures ∙ led_some c.args.a.now c.args.at.now c.in-Some.method.now c.in-Some.ensures l,
)

pub returns-in-None : goal.returns-in-None
returns-in-None c = (λ e. absurd (let f : ⊥ = cc in f), λ l. absurd (led_nowhere c.args.a.now c.args.at.now (sym c.in-None.ensures) l))
