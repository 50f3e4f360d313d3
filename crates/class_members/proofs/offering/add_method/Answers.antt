use Rattle.std.proofs.Common.{subst, List}
use Rattle.std.specs.List.{flat_map}
use Rattle.type_terms.specs.declared.reference.MethodRef.{MethodRef}
use Rattle.sig_pool.specs.Replaced.{terms_at}
use Rattle.type_hierarchy.specs.World.{hierarchy}
use Rattle.type_hierarchy.proofs.GrowLemmas.{below_extends}
use Rattle.class_members.specs.Facts.{Adds}
use Rattle.class_members.specs.Offers.{Offer, override_offers, overrides_by, own_offers}
use Rattle.class_members.proofs.Adding.{adds_both}
use Rattle.class_members.proofs.Worlds.{in_old, on_ok_more}
use Rattle.class_members.proofs.offering.add_method.Goals as goal

pub add_each-requires : goal.add_each-requires
add_each-requires c = below_extends c.args.w.now.nodes c.add_own.new.w.nodes c.args.args.now c.in_ok-add_own.ensures.stays.nodes c.requires

pub returns-clause-ok : goal.returns-clause-ok
returns-clause-ok c =
    let w = c.args.w.now in
    let ts = terms_at w.nodes c.args.args.now in
    let s = c.in_ok-add_own.ensures.stays in
    let m = c.args.method.now in
    let at = c.args.at.now in
    on_ok_more c.add_each.result
    (λ h. adds_both c.add_own.new.w.nodes c.add_each.new.w.nodes at (own_offers (hierarchy w) ts m) (overrides_by (hierarchy w) ts m) c.args.facts.now c.add_own.new.facts c.add_each.new.facts
    c.add_each.ensures.stays.nodes c.in_ok-add_own.ensures.ok
    (subst (λ (l : List Offer). Adds c.add_each.new.w.nodes at l c.add_own.new.facts c.add_each.new.facts)
    (in_old (λ v us. overrides_by v us m) w c.add_own.new.w c.args.args.now s c.requires)
    (subst (λ (os : List MethodRef). Adds c.add_each.new.w.nodes at (flat_map (override_offers (hierarchy c.add_own.new.w) (terms_at c.add_own.new.w.nodes c.args.args.now)) os) c.add_own.new.facts
    c.add_each.new.facts) c.as_slice.ensures h)))
    c.add_each.ensures.ok
