use Rattle.std.proofs.Common.{ℕ, List, ap, subst}
use Rattle.row_demands.specs.Structured.{MeetStructure}
use Rattle.type_names.specs.Numbers.{TypeNumbers, TellNames}
use Rattle.name_weights.proofs.Told.{short}
use Rattle.name_weights.proofs.levels.paths_are_short.Goals as goal

pub returns : goal.returns
returns c =
    let seen = ap (λ (v : TypeNumbers). v.image) c.given.view_is in
    let named = c.given.inside.names.now.named in
    let meets : MeetStructure c.args.given.now.image = subst MeetStructure seen c.given.invariant.3 in
    let tell : TellNames c.given.inside.image.now named = subst (λ (x : List ℕ). TellNames x named) c.given.invariant.1 c.tell_names.ensures in
    short c.args.given.now.image meets c.requires named (subst (λ (x : List ℕ). TellNames x named) seen tell)
