use Rattle.std.proofs.Common.{subst, sym, refl}
use Rattle.std.specs.Option.{option_copied}
use Rattle.type_hierarchy.specs.Indexed.{KnowsTypes}
use Rattle.type_hierarchy.specs.World.{hierarchy, type_at}
use Rattle.class_members.proofs.Worlds.{stays_on}
use Rattle.class_notes.specs.Fresh.{AreLedFaces, AreLedIds}
use Rattle.class_notes.specs.Notes.{AreOpen, Knows}
use Rattle.class_notes.specs.Reading.{HasRead, Reads}
use Rattle.class_notes.proofs.MakingLemmas.{finds_all, has_read, knows_read}
use Rattle.class_notes.proofs.ReadingLemmas.{ids_grow}
use Rattle.class_notes.proofs.Worlds.{earlier_at, later, later_at, later_parent}
use Rattle.class_notes.proofs.making.find_open.Goals as goal

pub read-requires-clause-knows : goal.read-requires-clause-knows
read-requires-clause-knows c = subst (KnowsTypes c.args.a.now) (sym c.in_ok-led.ensures.stays.tables) c.requires.types

pub read-requires-clause-led : goal.read-requires-clause-led
read-requires-clause-led c =
    later_at c.args.w.now c.led_faces.new.w c.in_ok-led.ensures.stays c.args.key.now c.requires.key (λ v t. AreLedFaces c.args.a.now v c.led_faces.new.w.nodes t c.in_ok-led.led) c.in_ok-led.ensures.ok

pub open_all-requires-clause-types : goal.open_all-requires-clause-types
open_all-requires-clause-types c =
    subst (KnowsTypes c.args.a.now) (sym (stays_on c.args.w.now c.led_faces.new.w c.read.new.w c.in_ok-led.ensures.stays c.in_ok-read.ensures.stays).tables) c.requires.types

pub open_all-requires-clause-knows : goal.open_all-requires-clause-knows
open_all-requires-clause-knows c =
    let w = c.args.w.now in
    let w2 = c.read.new.w in
    let s = stays_on w c.led_faces.new.w w2 c.in_ok-led.ensures.stays c.in_ok-read.ensures.stays in
    let r = earlier_at w c.led_faces.new.w c.in_ok-led.ensures.stays c.args.key.now c.requires.key (λ v t. Reads c.args.a.now v w2.nodes c.args.key.now t c.args.notes.now.facts c.read.new.facts)
    c.in_ok-read.ensures.ok in
    later w w2 s (λ v. Knows c.args.a.now v w2.nodes (record { facts = c.read.new.facts; faces = c.args.notes.now.faces; notes = c.args.notes.now.notes }))
    (knows_read c.args.a.now (hierarchy w) w.nodes w2.nodes s.nodes c.args.key.now c.requires.key c.args.notes.now c.read.new.facts c.requires.knows r)

pub open_all-requires-clause-read : goal.open_all-requires-clause-read
open_all-requires-clause-read c =
    let w = c.args.w.now in
    let w2 = c.read.new.w in
    let s = stays_on w c.led_faces.new.w w2 c.in_ok-led.ensures.stays c.in_ok-read.ensures.stays in
    let r = earlier_at w c.led_faces.new.w c.in_ok-led.ensures.stays c.args.key.now c.requires.key (λ v t. Reads c.args.a.now v w2.nodes c.args.key.now t c.args.notes.now.facts c.read.new.facts)
    c.in_ok-read.ensures.ok in
    later_at w w2 s c.args.key.now c.requires.key (λ v t. HasRead c.args.a.now v w2.nodes c.read.new.facts t)
    (has_read c.args.a.now (hierarchy w) w.nodes w2.nodes s.nodes c.args.key.now c.requires.key c.args.notes.now c.read.new.facts c.requires.knows r (option_copied c.args.parent) c.requires.parent
    c.requires.checked)

pub open_all-requires-clause-parent : goal.open_all-requires-clause-parent
open_all-requires-clause-parent c =
    let s = stays_on c.args.w.now c.led_faces.new.w c.read.new.w c.in_ok-led.ensures.stays c.in_ok-read.ensures.stays in
    later_parent c.args.w.now c.read.new.w s c.args.key.now c.requires.key (option_copied c.args.parent) c.requires.parent

pub open_all-requires-clause-faces : goal.open_all-requires-clause-faces
open_all-requires-clause-faces c =
    let w = c.args.w.now in
    let w1 = c.led_faces.new.w in
    let w2 = c.read.new.w in
    let s = stays_on w w1 w2 c.in_ok-led.ensures.stays c.in_ok-read.ensures.stays in
    let led = subst (AreLedIds c.args.a.now (hierarchy w) w2.nodes (type_at w c.args.key.now)) (sym c.as_slice.ensures) (ids_grow w1.nodes w2.nodes _ c.in_ok-led.led.all c.in_ok-read.ensures.stays.nodes c.in_ok-led.ensures.ok.all) in
    later_at w w2 s c.args.key.now c.requires.key (λ v t. AreLedIds c.args.a.now v w2.nodes t c.as_slice.result.now) led

pub returns-clause-ok : goal.returns-clause-ok
returns-clause-ok c =
    let w = c.args.w.now in
    let w1 = c.led_faces.new.w in
    let w2 = c.read.new.w in
    let w3 = c.open_all.new.w in
    let s1 = c.in_ok-led.ensures.stays in
    let s = stays_on w w1 w2 s1 c.in_ok-read.ensures.stays in
    let key = c.args.key.now in
    let r = earlier_at w w1 s1 key c.requires.key (λ v t. Reads c.args.a.now v w2.nodes key t c.args.notes.now.facts c.read.new.facts) c.in_ok-read.ensures.ok in
    let led = subst (AreLedIds c.args.a.now (hierarchy w) w2.nodes (type_at w key)) (sym c.as_slice-2.ensures) (ids_grow w1.nodes w2.nodes _ c.in_ok-led.led.all c.in_ok-read.ensures.stays.nodes c.in_ok-led.ensures.ok.all) in
    let are = earlier_at w w2 s key c.requires.key (λ v t. AreOpen c.args.a.now v w3.nodes t c.in_ok-opens.opens) c.in_ok-opens.ensures.ok in
    finds_all c.args.a.now w w2 w3 s c.in_ok-opens.ensures.stays key c.requires.key c.args.notes.now c.read.new.facts c.requires.knows r (option_copied c.args.parent) c.requires.parent c.requires.checked
    c.as_slice-2.result.now led c.in_ok-opens.opens are _ refl refl c.in_ok-add_pairs.ensures

pub returns-in_err-opens-clause-stays : goal.returns-in_err-opens-clause-stays
returns-in_err-opens-clause-stays c = stays_on c.args.w.now c.read.new.w c.open_all.new.w (stays_on c.args.w.now c.led_faces.new.w c.read.new.w c.in_ok-led.ensures.stays c.in_ok-read.ensures.stays) c.open_all.ensures.stays

pub returns-in_err-add_pairs-clause-stays : goal.returns-in_err-add_pairs-clause-stays
returns-in_err-add_pairs-clause-stays c = stays_on c.args.w.now c.read.new.w c.open_all.new.w (stays_on c.args.w.now c.led_faces.new.w c.read.new.w c.in_ok-led.ensures.stays c.in_ok-read.ensures.stays) c.open_all.ensures.stays

pub returns-clause-stays : goal.returns-clause-stays
returns-clause-stays c = stays_on c.args.w.now c.read.new.w c.open_all.new.w (stays_on c.args.w.now c.led_faces.new.w c.read.new.w c.in_ok-led.ensures.stays c.in_ok-read.ensures.stays) c.open_all.ensures.stays
