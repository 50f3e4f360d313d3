use Rattle.std.proofs.Common.{subst, sym, ℕ, List, arith}
use Rattle.std.proofs.lemmas.List.{take_all}
use Rattle.type_hierarchy.specs.Indexed.{KnowsTypes}
use Rattle.type_hierarchy.specs.World.{hierarchy, type_at}
use Rattle.class_members.proofs.Worlds.{stays_itself}
use Rattle.class_notes.specs.Opening.{AddsFaces}
use Rattle.class_notes.proofs.OpeningLemmas.{face_more, faces_none, read_on}
use Rattle.class_notes.proofs.opening.open_faces.Goals as goal

pub loop-face-init : goal.loop-face-init
loop-face-init c =
    let w = c.args.w.now in
    record { stays = stays_itself w; adds = faces_none c.args.a.now (hierarchy w) w.nodes (type_at w c.args.at.now) c.args.opens.now }

pub open_slots-requires-clause-knows : goal.open_slots-requires-clause-knows
open_slots-requires-clause-knows c = subst (KnowsTypes c.args.a.now) (sym c.loop-face.invariant.stays.tables) c.requires.knows

pub open_slots-requires-clause-read : goal.open_slots-requires-clause-read
open_slots-requires-clause-read c = read_on c.args.a.now c.args.w.now c.loop-face.w c.loop-face.invariant.stays c.args.at.now c.requires.at c.args.facts.now c.requires.read

pub returns-clause-ok : goal.returns-clause-ok
returns-clause-ok c =
    let w = c.args.w.now in
    subst (λ (l : List ℕ). AddsFaces c.args.a.now (hierarchy w) c.loop-face.w.nodes (type_at w c.args.at.now) l c.args.opens.now c.loop-face.opens)
    (take_all c.loop-face.face-index c.args.faces.now (omega arith)) c.loop-face.invariant.adds

pub loop-face-preserved : goal.loop-face-preserved
loop-face-preserved c =
    let w = c.args.w.now in
    let v = c.loop-face.invariant in
    let face = c.face-item.result in
    let next = c.open_slots.new.w in
    let s = c.in_ok-open_slots.ensures.stays in
    record {
      stays = c.keys_keep_their_types.ensures.onward w c.loop-face.w next v.stays s;
      adds = face_more c.args.a.now w c.loop-face.w next v.stays s c.args.at.now c.requires.at c.args.faces.now c.requires.faces c.loop-face.face-index face c.loop-face-test.true c.face-item.is
          c.args.opens.now c.loop-face.opens v.adds c.open_slots.new.opens (c.requires.are face (c.loop-face.face-index, c.loop-face-test.true, sym c.face-item.is)) c.in_ok-open_slots.ensures.ok;
    }
