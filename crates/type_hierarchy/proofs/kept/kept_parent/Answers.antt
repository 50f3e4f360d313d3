use Rattle.type_hierarchy.specs.Tables.{hierarchy_in}
use Rattle.type_hierarchy.proofs.KeptLemmas.{knows_more, knows_noted, known_is}
use Rattle.type_hierarchy.proofs.kept.kept_parent.Goals as goal

pub returns-in-Some-clause-ok : goal.returns-in-Some-clause-ok
returns-in-Some-clause-ok c = known_is (hierarchy_in c.args.tables.now) c.args.pool.now c.args.parents.now c.args.id c.in-Some.parent c.requires.known c.in-Some.ensures

pub returns-in_err-parent-clause-known : goal.returns-in_err-parent-clause-known
returns-in_err-parent-clause-known c = knows_more (hierarchy_in c.args.tables.now) c.args.pool.now c.parent_id.new.pool c.args.parents.now c.parent_id.ensures.extends c.requires.known

pub returns-in_err-note-in-Some-2-clause-known : goal.returns-in_err-note-in-Some-2-clause-known
returns-in_err-note-in-Some-2-clause-known c =
    knows_noted (hierarchy_in c.args.tables.now) c.args.pool.now c.parent_id.new.pool c.args.parents.now c.note.new.parents c.args.id c.in-Some-2.parent
    c.parent_id.ensures.extends c.requires.known c.note.ensures c.requires.id (rw c.in-Some-2.is at c.in_ok-parent.ensures.ok)

pub returns-in_ok-note-in-Some-2-clause-known : goal.returns-in_ok-note-in-Some-2-clause-known
returns-in_ok-note-in-Some-2-clause-known c =
    knows_noted (hierarchy_in c.args.tables.now) c.args.pool.now c.parent_id.new.pool c.args.parents.now c.note.new.parents c.args.id c.in-Some-2.parent
    c.parent_id.ensures.extends c.requires.known c.note.ensures c.requires.id (rw c.in-Some-2.is at c.in_ok-parent.ensures.ok)

pub returns-in-None-clause-known : goal.returns-in-None-clause-known
returns-in-None-clause-known c = knows_more (hierarchy_in c.args.tables.now) c.args.pool.now c.parent_id.new.pool c.args.parents.now c.parent_id.ensures.extends c.requires.known
