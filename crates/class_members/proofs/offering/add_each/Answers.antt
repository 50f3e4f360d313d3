use Rattle.std.proofs.Common.{subst, List}
use Rattle.sig_pool.specs.Replaced.{terms_at}
use Rattle.type_hierarchy.specs.World.{hierarchy}
use Rattle.type_hierarchy.proofs.GrowLemmas.{below_extends}
use Rattle.class_members.specs.Facts.{Adds}
use Rattle.class_members.specs.Offers.{Offer, override_offers}
use Rattle.class_members.proofs.Adding.{adds_more, adds_none}
use Rattle.class_members.proofs.Worlds.{in_old, stays_itself}
use Rattle.class_members.proofs.offering.add_each.Goals as goal

pub loop-reference-init : goal.loop-reference-init
loop-reference-init c = record { stays = stays_itself c.args.w.now; adds = adds_none c.args.w.now.nodes c.args.at.now c.args.facts.now }

pub add_override-requires : goal.add_override-requires
add_override-requires c = below_extends c.args.w.now.nodes c.loop-reference.w.nodes c.args.args.now c.loop-reference.invariant.stays.nodes c.requires

pub loop-reference-preserved : goal.loop-reference-preserved
loop-reference-preserved c =
    let w = c.args.w.now in
    let s = c.loop-reference.invariant.stays in
    let adds = subst (λ (l : List Offer). Adds c.add_override.new.w.nodes c.args.at.now l c.loop-reference.facts c.add_override.new.facts)
    (in_old (λ h ts. override_offers h ts c.reference-item.result) w c.loop-reference.w c.args.args.now s c.requires) c.in_ok-add_override.ensures.ok in
    record {
      stays = c.keys_keep_their_types.ensures.onward w c.loop-reference.w c.add_override.new.w s c.in_ok-add_override.ensures.stays;
      adds = adds_more (override_offers (hierarchy w) (terms_at w.nodes c.args.args.now)) c.loop-reference.w.nodes c.add_override.new.w.nodes c.args.at.now c.args.overrides.now c.loop-reference.reference-index c.reference-item.result
          c.args.facts.now c.loop-reference.facts c.add_override.new.facts c.in_ok-add_override.ensures.stays.nodes c.loop-reference.invariant.adds adds c.loop-reference-test.true c.reference-item.is;
    }
