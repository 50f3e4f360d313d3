use Rattle.std.specs.Option.{option_copied}
use Rattle.std.proofs.Common.{ap, arith}
use Rattle.type_hierarchy.specs.World.{hierarchy, type_at}
use Rattle.class_members.proofs.Worlds.{stays_itself}
use Rattle.class_notes.proofs.OpeningLemmas.{read_on, slots_all, slots_end, slots_none, slots_step}
use Rattle.class_notes.proofs.opening.open_slots.Goals as goal

pub returns-in_default-clause-ok : goal.returns-in_default-clause-ok
returns-in_default-clause-ok c =
    let w = c.args.w.now in
    slots_end c.args.a.now (hierarchy w) w.nodes (type_at w c.args.at.now) c.args.face.now (option_copied c.in_ok-declared.declared) c.args.opens.now c.in_ok-declared.ensures
    (ap option_copied c.in_default.is)

pub loop-place-init : goal.loop-place-init
loop-place-init c =
    let w = c.args.w.now in
    record { stays = stays_itself w; adds = slots_none c.args.a.now (hierarchy w) w.nodes (type_at w c.args.at.now) c.args.face.now c.args.opens.now }

pub loop-place-preserved : goal.loop-place-preserved
loop-place-preserved c =
    let w = c.args.w.now in
    let v = c.loop-place.invariant in
    record {
      stays = c.keys_keep_their_types.ensures.onward w c.loop-place.w c.open_slot.new.w v.stays c.in_ok-open_slot.ensures.stays;
      adds = slots_step c.args.a.now w c.loop-place.w c.open_slot.new.w v.stays c.in_ok-open_slot.ensures.stays c.args.at.now c.requires.at c.args.face.now c.requires.face c.as_slice-methods.result.now
          c.loop-place.place c.index-methods-place.result c.loop-place-test.true c.index-methods-place.is c.args.opens.now c.loop-place.opens c.open_slot.new.opens v.adds
          (c.in_ok-open_slot.ensures.ok c.args.a.now (read_on c.args.a.now w c.loop-place.w v.stays c.args.at.now c.requires.at c.args.facts.now c.requires.read));
    }

pub returns-clause-ok : goal.returns-clause-ok
returns-clause-ok c =
    let w = c.args.w.now in
    slots_all c.args.a.now (hierarchy w) c.loop-place.w.nodes (type_at w c.args.at.now) (type_at w c.args.face.now) c.args.face.now c.loop-place.place c.in-Some.of.now c.as_slice-methods.result.now c.args.opens.now
    c.loop-place.opens (rw c.in-Some.is at c.in_ok-declared.ensures) c.as_slice-methods.ensures (omega arith) c.loop-place.invariant.adds
