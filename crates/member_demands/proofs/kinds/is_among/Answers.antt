use Rattle.std.specs.Prelude.{nat_eq}
use Rattle.std.proofs.lemmas.Bool.Decides.{Decides-eqb}
use Rattle.std.proofs.lemmas.List.Elements.{contains_decides, Decides-contains}
use Rattle.member_demands.proofs.kinds.is_among.Goals as goal

pub returns : goal.returns
returns c =
    Decides-contains c.args.numbers.now c.args.number c.contains.result
    (contains_decides nat_eq Decides-eqb c.args.numbers.now c.args.number c.contains.result c.contains.ensures.cases)
