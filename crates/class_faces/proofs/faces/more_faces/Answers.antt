use Rattle.std.proofs.Common.{subst, ℕ, List}
use Rattle.type_hierarchy.specs.Tables.{hierarchy_in}
use Rattle.type_hierarchy.specs.World.{hierarchy}
use Rattle.type_hierarchy.specs.declared.tables.Tables.{Tables}
use Rattle.class_faces.specs.Marked.{AreAmong}
use Rattle.class_faces.proofs.MoreLemmas.{if_ok_more, more_alone, more_merged}
use Rattle.class_faces.proofs.faces.more_faces.Goals as goal

pub returns-in-Some-clause-faces : goal.returns-in-Some-clause-faces
returns-in-Some-clause-faces c =
    let w = hierarchy c.args.w.now in
    let s = c.in_ok-keys.ensures.stays in
    let among = subst (λ (l : Tables). AreAmong c.args.a.now (hierarchy_in l) c.closure.new.w.nodes c.as_slice.result.now c.in_ok-own.own) s.tables c.in_ok-own.ensures in
    let same = subst (λ (l : List ℕ). AreAmong c.args.a.now w c.closure.new.w.nodes l c.in_ok-own.own) c.as_slice.ensures among in
    rw c.in-Some.is
    (if_ok_more c.merged.result
    (λ r h. more_merged c.args.a.now w c.args.w.now.nodes c.closure.new.w.nodes s.nodes c.args.own.now c.in_ok-keys.keys c.in_ok-own.own c.in_ok-keys.ensures.ok same c.in-Some.above.now r
    (rw c.in-Some.is at c.requires.all) (rw c.in-Some.is at c.requires.overriding) h)
    c.merged.ensures)

pub returns-clause-faces : goal.returns-clause-faces
returns-clause-faces c =
    let w = hierarchy c.args.w.now in
    let s = c.in_ok-keys.ensures.stays in
    let among = subst (λ (l : Tables). AreAmong c.args.a.now (hierarchy_in l) c.closure.new.w.nodes c.as_slice.result.now c.in_ok-own.own) s.tables c.in_ok-own.ensures in
    let same = subst (λ (l : List ℕ). AreAmong c.args.a.now w c.closure.new.w.nodes l c.in_ok-own.own) c.as_slice.ensures among in
    rw c.in-None.is
    (more_alone c.args.a.now w c.args.w.now.nodes c.closure.new.w.nodes s.nodes c.args.own.now c.in_ok-keys.keys c.in_ok-own.own c.in_ok-keys.ensures.ok same)
