use Rattle.std.proofs.Common.{ℕ, List, sym, subst, ◌∙◌}
use Rattle.type_names.specs.Numbers.{TellNames}
use Rattle.distinct_members.proofs.Typing.{one_path}
use Rattle.distinct_members.proofs.types.TypesLikeness.alike_are_hashed_alike.Goals as goal

pub returns : goal.returns
returns c = λ one other x y p q path k l.
    let named = c.args.self.now.names.now.named in
    let tell = subst (λ (i : List ℕ). TellNames i named) c.requires.0 c.tell_names.ensures in
    k ∙ (one_path c.args.self.now.image.now named tell c.requires.1 c.requires.2 one other p q).1 path ∙ sym l
