use Rattle.std.proofs.Common.{IfNone, Ok, subst, ◌∙◌, ap}
use Rattle.row_parts.proofs.Zips.{ok_has}
use Rattle.kept_members.proofs.signatures.sure.Goals as goal

pub unreachable-requires : goal.unreachable-requires
unreachable-requires g c = subst (λ o. IfNone o ⊥) c.in-None.is (ok_has (λ o. IfNone o ⊥) c.args.found c.in_ok-value.value c.in_ok-value.was c.requires)

pub returns : goal.returns
returns g c = c.in_ok-value.was ∙ ap Ok c.in-Some.is
