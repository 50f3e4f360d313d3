use Rattle.type_hierarchy.specs.World.{hierarchy, type_at}
use Rattle.class_members.proofs.Worlds.{if_ok_more}
use Rattle.class_notes.proofs.FillingLemmas.{yes_when}
use Rattle.class_notes.proofs.KnownTypes.{known_declared, known_otherwise}
use Rattle.class_notes.proofs.known.is_known.Goals as goal

pub returns-in-Some-clause-ok : goal.returns-in-Some-clause-ok
returns-in-Some-clause-ok c =
    yes_when (known_declared c.args.a.now (hierarchy c.args.w.now) (type_at c.args.w.now c.args.key.now) _ (rw c.in-Some.is at c.in_ok-declared.ensures))

pub returns-in-None-clause-ok : goal.returns-in-None-clause-ok
returns-in-None-clause-ok c =
    if_ok_more c.is_core_type.result
    (λ r h. known_otherwise c.args.a.now (hierarchy c.args.w.now) (type_at c.args.w.now c.args.key.now) r (rw c.in-None.is at c.in_ok-declared.ensures) h)
    c.is_core_type.ensures.ok
