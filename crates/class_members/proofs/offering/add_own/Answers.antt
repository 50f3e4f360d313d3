use Rattle.std.proofs.Common.{subst}
use Rattle.sig_pool.specs.Replaced.{terms_at}
use Rattle.type_hierarchy.specs.World.{hierarchy}
use Rattle.class_members.specs.Facts.{IsNoted}
use Rattle.class_members.proofs.Adding.{adds_own, adds_not}
use Rattle.class_members.proofs.Worlds.{on_ok_more}
use Rattle.class_members.proofs.offering.add_own.Goals as goal

pub returns-in_ok-fact-clause-ok : goal.returns-in_ok-fact-clause-ok
returns-in_ok-fact-clause-ok c =
    let w = c.args.w.now in
    on_ok_more c.add.result
    (λ h. adds_own (hierarchy w) c.fact_of.new.w.nodes (terms_at w.nodes c.args.args.now) c.args.at.now c.args.method.now c.in_ok-fact.fact c.args.facts.now c.add.new.self
    c.is_provider.result c.is_provider.ensures c.if-is_provider.true c.in_ok-fact.ensures.ok (subst (IsNoted c.args.facts.now c.add.new.self) c.as_slice.ensures h))
    c.add.ensures

pub returns-else-is_provider-clause-ok : goal.returns-else-is_provider-clause-ok
returns-else-is_provider-clause-ok c =
    let w = c.args.w.now in
    adds_not (hierarchy w) w.nodes (terms_at w.nodes c.args.args.now) c.args.at.now c.args.method.now c.args.facts.now c.is_provider.result c.is_provider.ensures c.if-is_provider.false
