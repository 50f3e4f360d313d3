use Rattle.std.proofs.Common.{◌≡◌, ◌+◌, ◌-◌, subst, arith}
use Rattle.name_weights.specs.Weights.{HasLevel}
use Rattle.name_weights.proofs.Steps.{weighed_more}
use Rattle.name_weights.proofs.levels.weigh_node.Goals as goal

pub returns : goal.returns
returns c =
    let at : c.level_of.result ≡ c.args.level - 1 + 1 = let e = c.if-level_of-level.false in let s = c.requires.some in omega (arith, e, s) in
    weighed_more c.args.given.now.image (c.args.level - 1) c.args.k c.saturating_add.result c.args.weights.now c.part_of-part.result c.requires.node
    (subst (HasLevel c.args.given.now.image c.args.k) at c.level_of.ensures) c.part_of-part.ensures c.requires.weighed c.saturating_add.ensures
