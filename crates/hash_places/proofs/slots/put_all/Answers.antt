use Rattle.std.proofs.Common.{refl, ◌∙◌, arith}
use Rattle.std.proofs.lemmas.Option.{slice_get-get_or}
use Rattle.hash_places.proofs.SlotLemmas.{all_put, empty_reached, none_put, none_used, one_put}
use Rattle.hash_places.proofs.slots.put_all.Goals as goal

pub loop-slot-init : goal.loop-slot-init
loop-slot-init c = record {
  table = record { reached = empty_reached c.args.others.now c.requires.empty; counted = none_used c.args.others.now c.requires.empty };
  long = refl;
  few = omega arith;
  put = none_put c.args.slots.now c.args.others.now c.requires.empty;
}

pub loop-slot-preserved : goal.loop-slot-preserved
loop-slot-preserved c = record {
  table = c.put_slot-used.ensures.table;
  long = c.put_slot-used.ensures.long ∙ c.loop-slot.invariant.long;
  few = omega (arith, c.put_slot-used.ensures.few, c.loop-slot.invariant.few);
  put = one_put c.args.slots.now c.requires.reached c.loop-slot.others c.put_slot-used.new.others c.loop-slot.slot-index _
      (slice_get-get_or c.args.slots.now c.loop-slot.slot-index _ c.loop-slot-test.true) c.loop-slot.invariant.put c.put_slot-used.ensures.kept c.put_slot-used.ensures.placed;
}

pub returns-clause-placed : goal.returns-clause-placed
returns-clause-placed c = all_put c.args.slots.now c.loop-slot.others c.loop-slot.slot-index c.loop-slot-test.false c.loop-slot.invariant.put
