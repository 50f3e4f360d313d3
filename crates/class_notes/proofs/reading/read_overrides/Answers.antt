use Rattle.std.specs.List.{flat_map}
use Rattle.std.proofs.lemmas.List.{take_all}
use Rattle.std.proofs.Common.{ℕ, ◌<◌, length, subst, sym, List, arith}
use Rattle.type_hierarchy.specs.Indexed.{KnowsTypes}
use Rattle.type_hierarchy.specs.World.{hierarchy, type_at}
use Rattle.class_members.specs.Facts.{Adds}
use Rattle.class_members.specs.Offers.{Offer, overrides_in}
use Rattle.class_members.proofs.Adding.{adds_more, adds_none}
use Rattle.class_members.proofs.Worlds.{at_old, stays_itself}
use Rattle.class_notes.proofs.reading.read_overrides.Goals as goal

pub loop-face-init : goal.loop-face-init
loop-face-init c = record { stays = stays_itself c.args.w.now; adds = adds_none c.args.w.now.nodes c.args.at.now c.args.facts.now }

pub add_overrides-requires-clause-knows : goal.add_overrides-requires-clause-knows
add_overrides-requires-clause-knows c = subst (KnowsTypes c.args.a.now) (sym c.loop-face.invariant.stays.tables) c.requires.knows

pub loop-face-preserved : goal.loop-face-preserved
loop-face-preserved c =
    let w = c.args.w.now in
    let s = c.loop-face.invariant.stays in
    let face = c.face-item.result in
    let low : face < length w.nodes = subst (λ k. k < length w.nodes) (sym c.face-item.is) (c.requires.faces c.loop-face.face-index face c.loop-face-test.true) in
    let adds = subst (λ (l : List Offer). Adds c.add_overrides.new.w.nodes c.args.at.now l c.loop-face.facts c.add_overrides.new.facts)
    (at_old (λ h t. overrides_in c.args.a.now h t) w c.loop-face.w face s low) c.in_ok-add_overrides.ensures.ok in
    record {
      stays = c.keys_keep_their_types.ensures.onward w c.loop-face.w c.add_overrides.new.w s c.in_ok-add_overrides.ensures.stays;
      adds = adds_more (λ k. overrides_in c.args.a.now (hierarchy w) (type_at w k)) c.loop-face.w.nodes c.add_overrides.new.w.nodes c.args.at.now c.args.faces.now c.loop-face.face-index face c.args.facts.now
          c.loop-face.facts c.add_overrides.new.facts c.in_ok-add_overrides.ensures.stays.nodes c.loop-face.invariant.adds adds c.loop-face-test.true c.face-item.is;
    }

pub returns-clause-ok : goal.returns-clause-ok
returns-clause-ok c =
    let w = c.args.w.now in
    subst
    (λ (l : List ℕ). Adds c.loop-face.w.nodes c.args.at.now (flat_map (λ k. overrides_in c.args.a.now (hierarchy w) (type_at w k)) l) c.args.facts.now c.loop-face.facts)
    (take_all c.loop-face.face-index c.args.faces.now (omega arith)) c.loop-face.invariant.adds
