use Rattle.std.proofs.Common.{sym, ◌∙◌, ap}
use Rattle.std.proofs.lemmas.Option.{none-some}
use Rattle.kept_members.specs.Maps.{all_of}
use Rattle.kept_members.proofs.owners.kept_method.Goals as goal

pub unreachable-requires : goal.unreachable-requires
unreachable-requires c = none-some c.requires.0 (c.in-None.ensures ∙ (ap (all_of c.args.methods.now) c.token_of.ensures ∙ c.requires.1))

pub returns : goal.returns
returns c = ap (all_of c.args.methods.now) (sym c.token_of.ensures) ∙ sym c.in-Some.ensures
