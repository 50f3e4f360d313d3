use Rattle.std.proofs.Common.{refl, ◌≡◌, None}
use Rattle.type_hierarchy.specs.Hierarchy.{parent}
use Rattle.type_hierarchy.specs.World.{hierarchy, type_at}
use Rattle.type_order.specs.Found.{foot}
use Rattle.type_order.proofs.StandingLemmas.{ladder_up}
use Rattle.class_members.proofs.Worlds.{stays_itself}
use Rattle.class_notes.proofs.ClimbingLemmas.{top_known, top_last, up_on}
use Rattle.class_notes.proofs.climbing.climb.Goals as goal

pub climb-init : goal.climb-init
climb-init c = record { top = c.requires.key; stays = stays_itself c.args.w.now; ladder = foot c.new-keys.ensures refl }

pub returns-then-is_noted-clause-ok : goal.returns-then-is_noted-clause-ok
returns-then-is_noted-clause-ok c =
    let v = c.climb.invariant in
    top_known (hierarchy c.args.w.now) c.climb.w.nodes c.args.notes.now c.args.key.now c.climb.keys c.climb.top v.top v.ladder (c.is_noted.ensures c.if-is_noted.true)

pub returns-in-None-clause-ok : goal.returns-in-None-clause-ok
returns-in-None-clause-ok c =
    let v = c.climb.invariant in
    let none : parent (hierarchy c.climb.w) (type_at c.climb.w c.climb.top) ≡ None = rw c.in-None.is at c.in_ok-parent.ensures.ok in
    top_last c.args.w.now c.climb.w c.parent_key.new.w v.stays c.in_ok-parent.ensures.stays c.args.notes.now c.args.key.now c.climb.keys c.climb.top v.top v.ladder none

pub climb-preserved : goal.climb-preserved
climb-preserved c =
    let w = c.args.w.now in
    let v = c.climb.invariant in
    let s = c.in_ok-parent.ensures.stays in
    let has = rw c.in-Some.is at c.in_ok-parent.ensures.ok in
    record {
      top = has.2.within;
      stays = c.keys_keep_their_types.ensures.onward w c.climb.w c.parent_key.new.w v.stays s;
      ladder = ladder_up (hierarchy w) c.climb.w.nodes c.parent_key.new.w.nodes c.args.key.now c.climb.top c.in-Some.parent c.climb.keys c.push.new.self v.ladder v.top s.nodes
          (up_on w c.climb.w v.stays c.parent_key.new.w.nodes c.climb.top c.in-Some.parent has) c.in_ok-push-in-Some.ensures.ok;
    }
