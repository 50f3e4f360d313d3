use Rattle.std.proofs.Common.{refl, subst, sym, ◌%◌, ◌^◌}
use Rattle.std.proofs.lemmas.Bool.{false≢true}
use Rattle.heaps.specs.Content.{HasUnits}
use Rattle.body_tokens.proofs.Checking.{text_there, no_text, other_text}
use Rattle.body_tokens.proofs.checks.is_text.Goals as goal

pub returns-then-table-ne112 : goal.returns-then-table-ne112
returns-then-table-ne112 c = (λ t. absurd (false≢true t), λ t. absurd (other_text c.args.image.now c.args.token c.if-table-ne112.true t))

pub returns-in-Some : goal.returns-in-Some
returns-in-Some c = (
  λ t. text_there c.args.image.now c.args.token c.in-Some.field-0.now c.if-table-ne112.false
      (subst (λ h. HasUnits h (c.args.token % 2 ^ 24) c.in-Some.field-0.now) c.user.ensures c.in-Some.ensures.found),
  λ t. refl,
)

pub returns-in-None : goal.returns-in-None
returns-in-None c = (
  λ t. absurd (false≢true t),
  λ t. absurd (no_text c.args.image.now c.args.token (λ bytes h. c.in-None.ensures.none bytes (subst (λ x. HasUnits x (c.args.token % 2 ^ 24) bytes) (sym c.user.ensures) h)) t),
)
