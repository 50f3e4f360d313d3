use Rattle.std.proofs.Common.{sym, ◌∙◌}
use Rattle.std.proofs.lemmas.Option.{none-some}
use Rattle.kept_members.proofs.owners.named_row.Goals as goal

pub unreachable-requires : goal.unreachable-requires
unreachable-requires c = none-some _ (c.in-None.ensures.value ∙ c.requires.2)

pub returns : goal.returns
returns c = sym c.in-Some.ensures.value
