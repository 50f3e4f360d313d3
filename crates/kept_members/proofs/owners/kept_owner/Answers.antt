use Rattle.std.proofs.Common.{sym, ◌∙◌}
use Rattle.std.proofs.lemmas.Option.{none-some}
use Rattle.kept_members.proofs.owners.kept_owner.Goals as goal

pub unreachable-requires : goal.unreachable-requires
unreachable-requires c = none-some c.requires.0 (c.in-None.ensures ∙ c.requires.1)

pub returns : goal.returns
returns c = sym c.in-Some.ensures
