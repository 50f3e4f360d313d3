use Rattle.std.proofs.Common.{subst, List}
use Rattle.std.specs.List.{flat_map}
use Rattle.sig_pool.specs.Replaced.{terms_at}
use Rattle.type_terms.specs.declared.reference.MethodRef.{MethodRef}
use Rattle.type_hierarchy.specs.World.{hierarchy}
use Rattle.type_hierarchy.proofs.GrowLemmas.{below_extends}
use Rattle.class_members.specs.Facts.{Adds}
use Rattle.class_members.specs.Offers.{Offer, override_offers, overrides_by}
use Rattle.class_members.proofs.Adding.{adds_more, adds_none}
use Rattle.class_members.proofs.Worlds.{in_old, stays_itself}
use Rattle.class_members.proofs.offering.add_all_overrides.Goals as goal

pub loop-method-init : goal.loop-method-init
loop-method-init c = record { stays = stays_itself c.args.w.now; adds = adds_none c.args.w.now.nodes c.args.at.now c.args.facts.now }

pub add_each-requires : goal.add_each-requires
add_each-requires c = below_extends c.args.w.now.nodes c.loop-method.w.nodes c.args.args.now c.loop-method.invariant.stays.nodes c.requires

pub loop-method-preserved : goal.loop-method-preserved
loop-method-preserved c =
    let w = c.args.w.now in
    let s = c.loop-method.invariant.stays in
    let adds = subst (λ (l : List Offer). Adds c.add_each.new.w.nodes c.args.at.now l c.loop-method.facts c.add_each.new.facts)
    (in_old (λ h ts. overrides_by h ts c.method-item.result) w c.loop-method.w c.args.args.now s c.requires)
    (subst (λ (os : List MethodRef). Adds c.add_each.new.w.nodes c.args.at.now (flat_map (override_offers (hierarchy c.loop-method.w) (terms_at c.loop-method.w.nodes c.args.args.now)) os) c.loop-method.facts c.add_each.new.facts) c.as_slice.ensures c.in_ok-add_each.ensures.ok) in
    record {
      stays = c.keys_keep_their_types.ensures.onward w c.loop-method.w c.add_each.new.w s c.in_ok-add_each.ensures.stays;
      adds = adds_more (overrides_by (hierarchy w) (terms_at w.nodes c.args.args.now)) c.loop-method.w.nodes c.add_each.new.w.nodes c.args.at.now c.args.methods.now c.loop-method.method-index c.method-item.result
          c.args.facts.now c.loop-method.facts c.add_each.new.facts c.in_ok-add_each.ensures.stays.nodes c.loop-method.invariant.adds adds c.loop-method-test.true c.method-item.is;
    }
