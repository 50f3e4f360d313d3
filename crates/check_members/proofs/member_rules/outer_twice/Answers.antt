use Rattle.std.proofs.Common.{◌<◌, ◌^◌, length, ap, refl, arith}
use Rattle.source_model.specs.Forest.{preorder}
use Rattle.source_model.specs.Nodes.{nothing_around}
use Rattle.check_members.proofs.ReadLemmas.{around_nothing, names_of_nothing, serves_by}
use Rattle.check_members.proofs.member_rules.outer_twice.Goals as goal

pub returns : goal.returns
returns g c s r names owns same =
    let long = ap length r.nodes in
    let few : length (preorder s.tree) < 2 ^ 32 = omega (arith, long, c.requires.few) in
    c.in_ok-first.ensures s nothing_around s.tree
    (serves_by (g.R.Rule.broken c.args.rule.now) s _ c.args.externs.now c.args.own.now refl refl names owns same few) r (around_nothing _ refl refl refl)
    (names_of_nothing s _ c.new-none.ensures c.new-none.ensures refl) r.nodes (c.derivations_have_bodies.ensures s r.derived).1
