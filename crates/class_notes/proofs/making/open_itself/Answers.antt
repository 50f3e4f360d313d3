use Rattle.type_hierarchy.specs.World.{hierarchy, type_at}
use Rattle.class_members.proofs.Worlds.{on_ok_more}
use Rattle.class_notes.proofs.MakingLemmas.{itself_not, itself_some}
use Rattle.class_notes.proofs.making.open_itself.Goals as goal

pub returns-then-branch-clause-ok : goal.returns-then-branch-clause-ok
returns-then-branch-clause-ok c =
    let w = c.args.w.now in
    on_ok_more c.open_slots.result
    (λ h. itself_some c.args.a.now (hierarchy w) w.nodes c.open_slots.new.w.nodes c.args.key.now c.args.opens.now c.open_slots.new.opens c.in_ok-is_face.field-0 c.open_slots.ensures.stays.nodes
    c.requires.key c.in_ok-is_face.ensures c.if-branch.true h)
    c.open_slots.ensures.ok

pub returns-else-branch-clause-ok : goal.returns-else-branch-clause-ok
returns-else-branch-clause-ok c =
    let w = c.args.w.now in
    itself_not c.args.a.now (hierarchy w) w.nodes (type_at w c.args.key.now) c.args.opens.now c.in_ok-is_face.field-0 c.in_ok-is_face.ensures c.if-branch.false
