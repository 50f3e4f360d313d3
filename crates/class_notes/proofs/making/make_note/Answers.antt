use Rattle.std.proofs.Common.{refl}
use Rattle.std.specs.Option.{option_copied}
use Rattle.type_hierarchy.specs.World.{hierarchy, type_at}
use Rattle.class_members.proofs.Worlds.{on_ok_more, stays_on}
use Rattle.class_notes.specs.declared.note.Note.TheVariants.{Skipped, Checked}
use Rattle.class_notes.specs.Making.{Finds}
use Rattle.class_notes.proofs.ClimbingLemmas.{knows_on}
use Rattle.class_notes.proofs.FillingLemmas.{not_when}
use Rattle.class_notes.proofs.MakingLemmas.{checked_by_parent, knows_checked, knows_put, knows_skipped, on_ok_always, skipped_by_parent, unknown}
use Rattle.class_notes.proofs.Worlds.{earlier_at}
use Rattle.class_notes.proofs.making.make_note.Goals as goal

pub returns-then-is_parent_skipped-clause-ok : goal.returns-then-is_parent_skipped-clause-ok
returns-then-is_parent_skipped-clause-ok c =
    let w = c.args.w.now in
    on_ok_always c.put.result
    (knows_put c.args.a.now (hierarchy w) w.nodes c.args.notes.now _ c.args.key.now Skipped c.requires.knows refl refl c.put.ensures.puts c.requires.key
    (skipped_by_parent c.args.a.now (hierarchy w) w.nodes c.args.notes.now (type_at w c.args.key.now) (option_copied c.args.parent) c.requires.knows c.requires.parent
    (c.is_parent_skipped.ensures.skipped c.if-is_parent_skipped.true)))

pub returns-then-is_parent_skipped-clause-there : goal.returns-then-is_parent_skipped-clause-there
returns-then-is_parent_skipped-clause-there c = on_ok_more c.put.result (λ e. (Skipped, e)) c.put.ensures.there

pub returns-then-not-branch-clause-ok : goal.returns-then-not-branch-clause-ok
returns-then-not-branch-clause-ok c =
    let w = c.args.w.now in
    on_ok_always c.put-then-not-branch.result
    (knows_skipped c.args.a.now w c.is_known.new.w c.in_ok-is_known.ensures.stays c.args.key.now c.requires.key c.args.notes.now _ c.requires.knows refl refl c.put-then-not-branch.ensures.puts
    (unknown c.args.a.now (hierarchy w) (type_at w c.args.key.now) (not_when c.in_ok-is_known.ensures.ok c.if-not-branch.true)))

pub returns-then-not-branch-clause-there : goal.returns-then-not-branch-clause-there
returns-then-not-branch-clause-there c = on_ok_more c.put-then-not-branch.result (λ e. (Skipped, e)) c.put-then-not-branch.ensures.there

pub find_open-requires-clause-knows : goal.find_open-requires-clause-knows
find_open-requires-clause-knows c = knows_on c.args.a.now c.args.w.now c.is_known.new.w c.in_ok-is_known.ensures.stays c.args.notes.now c.requires.knows

pub returns-clause-ok : goal.returns-clause-ok
returns-clause-ok c =
    let w = c.args.w.now in
    let w1 = c.is_known.new.w in
    let s1 = c.in_ok-is_known.ensures.stays in
    let known = (c.in_ok-is_known.ensures.ok).0 c.if-not-branch.false in
    let checked = checked_by_parent c.args.a.now (hierarchy w) w.nodes c.args.notes.now (type_at w c.args.key.now) (option_copied c.args.parent) c.requires.knows c.requires.parent
    (c.is_parent_skipped.ensures.checked c.if-is_parent_skipped.false) known in
    let finds = earlier_at w w1 s1 c.args.key.now c.requires.key (λ v t. Finds c.args.a.now v c.find_open.new.w.nodes t c.args.notes.now c.find_open.new.notes c.in_ok-opens.opens) c.in_ok-opens.ensures.ok in
    on_ok_always c.put-2.result
    (knows_checked c.args.a.now w c.find_open.new.w (stays_on w w1 c.find_open.new.w s1 c.in_ok-opens.ensures.stays) c.args.key.now c.requires.key c.args.notes.now c.find_open.new.notes _
    c.in_ok-opens.opens finds checked refl refl c.put-2.ensures.puts)

pub returns-clause-there : goal.returns-clause-there
returns-clause-there c = on_ok_more c.put-2.result (λ e. (Checked c.in_ok-opens.opens, e)) c.put-2.ensures.there
