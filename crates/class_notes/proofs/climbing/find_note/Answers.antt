use Rattle.std.proofs.Common.{◌≡◌, subst, sym, [], rules}
use Rattle.type_hierarchy.specs.Indexed.{KnowsTypes}
use Rattle.type_hierarchy.specs.World.{hierarchy}
use Rattle.type_order.proofs.StandingLemmas.{ladder_down, ladder_more}
use Rattle.class_members.proofs.Worlds.{stays_on}
use Rattle.class_notes.specs.Cores.{IsCored}
use Rattle.class_notes.specs.Notes.{IsNoted, Knows}
use Rattle.class_notes.proofs.ClimbingLemmas.{foot_is, knows_on, rung_parent}
use Rattle.class_notes.proofs.Worlds.{earlier, later}
use Rattle.class_notes.proofs.climbing.find_note.Goals as goal

pub make_note-requires-clause-types : goal.make_note-requires-clause-types
make_note-requires-clause-types c = subst (KnowsTypes c.args.a.now) (sym c.loop-below.invariant.stays.tables) c.requires.types

pub make_note-requires-clause-core : goal.make_note-requires-clause-core
make_note-requires-clause-core c = later c.args.w.now c.loop-below.w c.loop-below.invariant.stays IsCored c.requires.core

pub make_note-requires-clause-knows : goal.make_note-requires-clause-knows
make_note-requires-clause-knows c = later c.args.w.now c.loop-below.w c.loop-below.invariant.stays (λ v. Knows c.args.a.now v c.loop-below.w.nodes c.loop-below.notes) c.loop-below.invariant.knows

pub make_note-requires-clause-parent : goal.make_note-requires-clause-parent
make_note-requires-clause-parent c =
    let v = c.loop-below.invariant in
    let r = ladder_down (hierarchy c.args.w.now) c.loop-below.w.nodes c.args.key.now c.loop-below.top c.loop-below.keys c.pop.new.self c.in-Some.below v.ladder c.in-Some.ensures in
    rung_parent c.args.w.now c.loop-below.w v.stays c.loop-below.top c.in-Some.below v.top r.parent

pub make_note-requires-clause-key : goal.make_note-requires-clause-key
make_note-requires-clause-key c =
    let v = c.loop-below.invariant in
    let r = ladder_down (hierarchy c.args.w.now) c.loop-below.w.nodes c.args.key.now c.loop-below.top c.loop-below.keys c.pop.new.self c.in-Some.below v.ladder c.in-Some.ensures in
    r.within

pub loop-below-preserved : goal.loop-below-preserved
loop-below-preserved c =
    let w = c.args.w.now in
    let v = c.loop-below.invariant in
    let s = c.in_ok-make_note.ensures.stays in
    let next = c.make_note.new.w in
    let r = ladder_down (hierarchy w) c.loop-below.w.nodes c.args.key.now c.loop-below.top c.loop-below.keys c.pop.new.self c.in-Some.below v.ladder c.in-Some.ensures in
    record {
      top = ((c.keys_keep_their_types.ensures.keys c.loop-below.w next s).ids c.in-Some.below r.within).0;
      stays = c.keys_keep_their_types.ensures.onward w c.loop-below.w next v.stays s;
      ladder = ladder_more (hierarchy w) c.loop-below.w.nodes next.nodes c.args.key.now s.nodes r.within r.ladder;
      knows = earlier w c.loop-below.w v.stays (λ h. Knows c.args.a.now h next.nodes c.make_note.new.notes) c.in_ok-make_note.ensures.ok;
      noted = c.in_ok-make_note.ensures.there;
    }

pub returns-clause-ok : goal.returns-clause-ok
returns-clause-ok c = c.loop-below.invariant.knows

pub returns-clause-there : goal.returns-clause-there
returns-clause-there c =
    let v = c.loop-below.invariant in
    let none : c.loop-below.keys ≡ [] = search rules in
    subst (IsNoted c.loop-below.notes) (foot_is (hierarchy c.args.w.now) c.loop-below.w.nodes c.args.key.now c.loop-below.top c.loop-below.keys v.ladder none) v.noted

pub note_top-requires-clause-knows : goal.note_top-requires-clause-knows
note_top-requires-clause-knows c = knows_on c.args.a.now c.args.w.now c.climb.new.w c.in_ok-keys.ensures.stays c.args.notes.now c.requires.knows

pub loop-below-init : goal.loop-below-init
loop-below-init c =
    let w = c.args.w.now in
    let w1 = c.climb.new.w in
    let w2 = c.note_top.new.w in
    let s1 = c.in_ok-keys.ensures.stays in
    let s2 = c.in_ok-note_top.ensures.stays in
    let ok = c.in_ok-keys.ensures.ok in
    record {
      top = ((c.keys_keep_their_types.ensures.keys w1 w2 s2).ids c.in_ok-keys.field-0.top ok.within).0;
      stays = stays_on w w1 w2 s1 s2;
      ladder = ladder_more (hierarchy w) w1.nodes w2.nodes c.args.key.now s2.nodes ok.within ok.ladder;
      knows = earlier w w1 s1 (λ v. Knows c.args.a.now v w2.nodes c.note_top.new.notes) c.in_ok-note_top.ensures.ok;
      noted = c.in_ok-note_top.ensures.there;
    }
