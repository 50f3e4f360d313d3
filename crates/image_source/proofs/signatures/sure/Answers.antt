use Rattle.std.proofs.Common.{◌≡◌, Some, sym, ◌∙◌}
use Rattle.std.proofs.lemmas.Option.{none-some}
use Rattle.image_source.proofs.Keeping.{some_same}
use Rattle.row_parts.proofs.Zips.{ok_has}
use Rattle.image_source.proofs.signatures.sure.Goals as goal

pub unreachable-requires : goal.unreachable-requires
unreachable-requires g c = none-some c.requires.0 (sym c.in-None.is ∙ ok_has (λ o. o ≡ Some c.requires.0) c.args.found c.in_ok-value.value c.in_ok-value.was c.requires.1)

pub returns : goal.returns
returns g c = λ x h. some_same c.in-Some.item x (sym c.in-Some.is ∙ ok_has (λ o. o ≡ Some x) c.args.found c.in_ok-value.value c.in_ok-value.was h)
