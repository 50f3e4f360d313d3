use Rattle.std.proofs.Common.{subst, ◌<◌, length}
use Rattle.sig_pool.specs.Terms.{AllBelow}
use Rattle.class_members.specs.Facts.{IsNoted}
use Rattle.class_members.proofs.Adding.{adds_override}
use Rattle.class_members.proofs.Worlds.{for_some, on_ok_more, stays_on}
use Rattle.type_hierarchy.proofs.GrowLemmas.{below_extends, has_extends}
use Rattle.class_members.proofs.offering.add_override.Goals as goal

pub returns-clause-ok : goal.returns-clause-ok
returns-clause-ok c =
    on_ok_more c.add-2.result
    (λ h. adds_override c.args.w.now c.overridden.new.w c.fact_of.new.w c.fact_of-2.new.w c.in_ok-owner.ensures.stays c.in_ok-plain.ensures.stays c.in_ok-applied.ensures.stays c.args.args.now c.requires
    c.args.reference.now c.in_ok-owner.owner c.args.at.now c.in_ok-owner.ensures.ok c.in_ok-plain.plain c.in_ok-applied.applied c.args.facts.now c.add.new.self c.add-2.new.self
    c.in_ok-plain.ensures.ok c.in_ok-applied.ensures.ok (subst (IsNoted c.args.facts.now c.add.new.self) c.as_slice.ensures c.in_ok-add.ensures)
    (subst (IsNoted c.add.new.self c.add-2.new.self) c.as_slice-2.ensures h))
    c.add-2.ensures

pub fact_of-requires-clause-owner : goal.fact_of-requires-clause-owner
fact_of-requires-clause-owner c = for_some (λ k. k < length c.overridden.new.w.nodes) c.in_ok-owner.owner c.in_ok-owner.ensures.ok.within

pub fact_of-requires-2-clause-owner : goal.fact_of-requires-2-clause-owner
fact_of-requires-2-clause-owner c =
    let h = has_extends c.overridden.new.w.nodes c.fact_of.new.w.nodes c.in_ok-owner.owner _ c.in_ok-owner.ensures.ok c.in_ok-plain.ensures.stays.nodes in
    for_some (λ k. k < length c.fact_of.new.w.nodes) c.in_ok-owner.owner h.within

pub fact_of-requires-2-clause-args : goal.fact_of-requires-2-clause-args
fact_of-requires-2-clause-args c =
    let s = stays_on c.args.w.now c.overridden.new.w c.fact_of.new.w c.in_ok-owner.ensures.stays c.in_ok-plain.ensures.stays in
    for_some (λ ks. AllBelow (length c.fact_of.new.w.nodes) ks) c.args.args.now (below_extends c.args.w.now.nodes c.fact_of.new.w.nodes c.args.args.now s.nodes c.requires)
