use Rattle.std.proofs.Common.{arith, length, ◌<◌}
use Rattle.sig_pool.specs.Terms.{AllBelow}
use Rattle.type_hierarchy.proofs.GrowLemmas.{below_extends, extends_long}
use Rattle.class_members.proofs.Worlds.{for_some, stays_on}
use Rattle.class_members.proofs.Writing.{fact_long, wanted_is}
use Rattle.class_members.proofs.wanting.wants_by.Goals as goal

pub returns-clause-wanted : goal.returns-clause-wanted
returns-clause-wanted c =
    wanted_is c.args.w.now c.fact_of.new.w c.fact_of-2.new.w c.fact_of-3.new.w c.in_ok-member.ensures.stays c.in_ok-written.ensures.stays c.in_ok-applied.ensures.stays c.args.face.now c.requires.face
    c.args.args.now c.requires.args c.args.slot.now _ c.in_ok-member.ensures.ok c.in_ok-written.ensures.ok c.in_ok-applied.ensures.ok

pub returns-clause-room : goal.returns-clause-room
returns-clause-room c = (fact_long _ _ _ _ c.in_ok-member.ensures.ok, fact_long _ _ _ _ c.in_ok-written.ensures.ok, fact_long _ _ _ _ c.in_ok-applied.ensures.ok)

pub fact_of-requires-clause-args : goal.fact_of-requires-clause-args
fact_of-requires-clause-args c = for_some (λ ks. AllBelow (length c.args.w.now.nodes) ks) c.args.args.now c.requires.args.within

pub fact_of-requires-2-clause-owner : goal.fact_of-requires-2-clause-owner
fact_of-requires-2-clause-owner c =
    let l = extends_long c.args.w.now.nodes c.fact_of.new.w.nodes c.in_ok-member.ensures.stays.nodes in
    let low : c.args.face.now < length c.fact_of.new.w.nodes = omega (arith, l, c.requires.face) in
    for_some (λ k. k < length c.fact_of.new.w.nodes) c.args.face.now low

pub fact_of-requires-3-clause-owner : goal.fact_of-requires-3-clause-owner
fact_of-requires-3-clause-owner c =
    let l = extends_long c.args.w.now.nodes c.fact_of.new.w.nodes c.in_ok-member.ensures.stays.nodes in
    let m = extends_long c.fact_of.new.w.nodes c.fact_of-2.new.w.nodes c.in_ok-written.ensures.stays.nodes in
    let low : c.args.face.now < length c.fact_of-2.new.w.nodes = omega (arith, l, m, c.requires.face) in
    for_some (λ k. k < length c.fact_of-2.new.w.nodes) c.args.face.now low

pub fact_of-requires-3-clause-args : goal.fact_of-requires-3-clause-args
fact_of-requires-3-clause-args c =
    let s = stays_on c.args.w.now c.fact_of.new.w c.fact_of-2.new.w c.in_ok-member.ensures.stays c.in_ok-written.ensures.stays in
    for_some (λ ks. AllBelow (length c.fact_of-2.new.w.nodes) ks) c.args.args.now (below_extends c.args.w.now.nodes c.fact_of-2.new.w.nodes c.args.args.now s.nodes c.requires.args.within)

pub returns-clause-stays : goal.returns-clause-stays
returns-clause-stays c =
    stays_on c.args.w.now c.fact_of.new.w c.fact_of-3.new.w c.in_ok-member.ensures.stays
    (stays_on c.fact_of.new.w c.fact_of-2.new.w c.fact_of-3.new.w c.in_ok-written.ensures.stays c.in_ok-applied.ensures.stays)
