use Rattle.std.proofs.Common.{ℕ, List, sym, subst, ◌∙◌}
use Rattle.std.proofs.lemmas.Bool.{eqb-true, eq-eqb}
use Rattle.type_names.specs.Numbers.{TellNames}
use Rattle.distinct_members.proofs.Typing.{one_path}
use Rattle.distinct_members.proofs.types.TypesLikeness.are_alike.Goals as goal

pub returns : goal.returns
returns c =
    let named = c.args.self.now.names.now.named in
    let tell = subst (λ (i : List ℕ). TellNames i named) c.requires.ready.0 c.tell_names.ensures in
    let one = one_path c.args.self.now.image.now named tell c.requires.ready.1 c.requires.ready.2 c.args.one c.args.other c.requires.one c.requires.other in
    let a = c.number_of.ensures in
    let b = c.number_of-2.ensures in (
      λ t. one.0 (sym a ∙ eqb-true c.number_of.result c.number_of-2.result t ∙ b),
      λ h. eq-eqb c.number_of.result c.number_of-2.result (a ∙ one.1 h ∙ sym b),
    )
