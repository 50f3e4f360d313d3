use Rattle.std.proofs.Common.{ap}
use Rattle.std.specs.Option.{option_copied}
use Rattle.type_hierarchy.specs.World.{hierarchy, type_at}
use Rattle.class_notes.proofs.OpeningLemmas.{left_behind, left_by, left_undeclared}
use Rattle.class_notes.proofs.opening.is_left.Goals as goal

pub returns-in_default-clause-ok : goal.returns-in_default-clause-ok
returns-in_default-clause-ok c =
    let w = c.args.w.now in
    left_undeclared c.args.a.now (hierarchy w) w.nodes (type_at w c.args.at.now) c.args.open_at.now (option_copied c.in_ok-declared.declared) c.in_ok-declared.ensures (ap option_copied c.in_default.is)

pub returns-in-None-clause-ok : goal.returns-in-None-clause-ok
returns-in-None-clause-ok c =
    let w = c.args.w.now in
    left_behind c.args.a.now (hierarchy w) w.nodes (type_at w c.args.at.now) c.args.open_at.now c.in-Some.of.now (rw c.in-Some.is at c.in_ok-declared.ensures) (rw c.in-None.is at c.get.ensures)

pub returns-in_ok-filled-in-Some-get-clause-ok : goal.returns-in_ok-filled-in-Some-get-clause-ok
returns-in_ok-filled-in-Some-get-clause-ok c =
    let w = c.args.w.now in
    left_by c.args.a.now (hierarchy w) w.nodes (type_at w c.args.at.now) c.args.open_at.now c.in-Some.of.now c.in-Some-get.slot.now c.in_ok-filled-in-Some-get.filled (rw c.in-Some.is at c.in_ok-declared.ensures)
    (rw c.in-Some-get.is at c.get.ensures) (c.in_ok-filled-in-Some-get.ensures.ok c.args.a.now c.requires.read)
