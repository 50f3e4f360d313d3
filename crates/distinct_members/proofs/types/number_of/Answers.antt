use Rattle.std.proofs.Common.{◌≡◌, List, ℕ, sym, subst, ◌∙◌}
use Rattle.std.proofs.lemmas.Option.{same_Some}
use Rattle.image_model.specs.Rows.{HasRow}
use Rattle.name_numbers.specs.Names.{number_at}
use Rattle.type_names.specs.Numbers.{TellNames}
use Rattle.distinct_members.proofs.Typing.{number_there}
use Rattle.distinct_members.proofs.types.number_of.Goals as goal

pub of_type-requires : goal.of_type-requires
of_type-requires c = subst (λ (i : List ℕ). HasRow i 0x02 c.args.row) (sym c.requires.same) c.requires.there

pub returns-in-Some : goal.returns-in-Some
returns-in-Some c =
    let tell = subst (λ (i : List ℕ). TellNames i c.args.names.now.named) c.requires.same c.tell_names.ensures in
    let there = number_there c.args.image.now c.args.names.now.named tell c.requires.meets c.requires.scopes c.args.row c.requires.there in
    same_Some c.in-Some.number (number_at c.args.names.now.named c.args.row) (c.in-Some.ensures ∙ there)

pub returns-in-None : goal.returns-in-None
returns-in-None c =
    let tell = subst (λ (i : List ℕ). TellNames i c.args.names.now.named) c.requires.same c.tell_names.ensures in
    let there = number_there c.args.image.now c.args.names.now.named tell c.requires.meets c.requires.scopes c.args.row c.requires.there in
    absurd (let e = c.in-None.ensures ∙ there in cc)
