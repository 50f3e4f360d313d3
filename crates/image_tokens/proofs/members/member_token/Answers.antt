use Rattle.std.proofs.Common.{ℕ, ◌<◌, ◌^◌, Option, subst}
use Rattle.std.specs.Prelude.{IfSome}
use Rattle.image_tokens.specs.Members.{IsDeclaredRow, of_declared, of_referred}
use Rattle.image_tokens.proofs.members.member_token.Goals as goal

pub returns-in-Some-clause-token : goal.returns-in-Some-clause-token
returns-in-Some-clause-token c =
    let e = c.in_ok-known.ensures in
    let found = subst (λ (r : Option ℕ). IfSome r (IsDeclaredRow c.args.declared.now c.args.owner c.args.name c.args.signature)) c.in-Some.is e.found in
    let few = subst (λ (r : Option ℕ). IfSome r (λ n. n < 2 ^ 24)) c.in-Some.is e.few in
    of_declared found (record { is = c.token_of.ensures; fits = few })

pub returns-clause-token : goal.returns-clause-token
returns-clause-token c = of_referred c.in_ok-row.ensures.row (record { is = c.token_of-2.ensures; fits = c.in_ok-row.ensures.few })
