use Rattle.std.proofs.Common.{◌<◌, ◌^◌, [], length, ap, refl, arith}
use Rattle.source_model.specs.Forest.{preorder}
use Rattle.check_members.proofs.ReadLemmas.{serves_by}
use Rattle.check_members.proofs.member_rules.inner_twice.Goals as goal

pub returns : goal.returns
returns g c s f r names owns same is bodies =
    let long = ap length r.nodes in
    let few : length (preorder s.tree) < 2 ^ 32 = omega (arith, long, c.requires.few) in
    c.in_ok-first.ensures s [] f
    (serves_by (g.R.Rule.broken c.args.rule.now) s _ c.args.externs.now c.args.own.now refl refl names owns same few) r refl is bodies
