use Rattle.std.proofs.Common.{subst, List}
use Rattle.sig_pool.specs.Replaced.{terms_at}
use Rattle.type_hierarchy.specs.World.{hierarchy, type_at}
use Rattle.class_members.specs.Facts.{Adds}
use Rattle.class_members.specs.Offers.{Offer}
use Rattle.class_members.proofs.Adding.{adds_none, offers_are, offers_none}
use Rattle.class_members.proofs.Worlds.{on_ok_more}
use Rattle.class_members.proofs.offering.add_offers.Goals as goal

pub returns-in-Some-clause-ok : goal.returns-in-Some-clause-ok
returns-in-Some-clause-ok c =
    let w = c.args.w.now in
    let t = type_at w c.args.at.now in
    let d = rw c.in-Some.is at c.in_ok-declared.ensures in
    on_ok_more c.add_methods.result
    (λ h. subst (λ (l : List Offer). Adds c.add_methods.new.w.nodes c.args.at.now l c.args.facts.now c.add_methods.new.facts)
    (offers_are c.args.a.now (hierarchy w) t c.in-Some.of.now c.as_slice.result.now (terms_at w.nodes c.in_ok-args.args) d c.as_slice.ensures c.in_ok-args.ensures.terms) h)
    c.add_methods.ensures.ok

pub returns-clause-ok : goal.returns-clause-ok
returns-clause-ok c =
    let w = c.args.w.now in
    let t = type_at w c.args.at.now in
    let d = rw c.in-None.is at c.in_ok-declared.ensures in
    subst (λ (l : List Offer). Adds w.nodes c.args.at.now l c.args.facts.now c.args.facts.now) (offers_none c.args.a.now (hierarchy w) t d) (adds_none w.nodes c.args.at.now c.args.facts.now)
