use Rattle.std.proofs.Common.{subst, sym, length, ℕ, List}
use Rattle.std.specs.List.{Contains}
use Rattle.std.specs.Option.{option_copied}
use Rattle.sig_pool.specs.Terms.{AllBelow}
use Rattle.type_hierarchy.specs.Indexed.{KnowsTypes}
use Rattle.type_hierarchy.specs.World.{hierarchy, type_at}
use Rattle.type_hierarchy.proofs.GrowLemmas.{below_extends}
use Rattle.class_members.proofs.Worlds.{stays_on}
use Rattle.class_notes.specs.Opening.{AddsFaces}
use Rattle.class_notes.proofs.MakingLemmas.{faces_on, fresh_of, fresh_within, opened}
use Rattle.class_notes.proofs.OpeningLemmas.{read_on}
use Rattle.class_notes.proofs.making.open_all.Goals as goal

pub open_faces-requires-clause-knows : goal.open_faces-requires-clause-knows
open_faces-requires-clause-knows c = subst (KnowsTypes c.args.a.now) (sym c.in_ok-opens.ensures.stays.tables) c.requires.types

pub open_faces-requires-clause-faces : goal.open_faces-requires-clause-faces
open_faces-requires-clause-faces c =
    let f = fresh_of c.args.notes.now.faces (option_copied c.args.parent) c.as_slice.result.now c.in_ok-opens.opens c.args.faces.now c.in_ok-fresh.fresh c.as_slice.ensures c.in_ok-fresh.ensures in
    let low = fresh_within (length c.args.w.now.nodes) c.args.notes.now.faces (option_copied c.args.parent) c.in_ok-opens.opens c.args.faces.now c.in_ok-fresh.fresh f c.requires.faces.within in
    subst (AllBelow (length c.passed_on.new.w.nodes)) (sym c.as_slice-2.ensures) (below_extends c.args.w.now.nodes c.passed_on.new.w.nodes c.in_ok-fresh.fresh c.in_ok-opens.ensures.stays.nodes low)

pub open_faces-requires-clause-read : goal.open_faces-requires-clause-read
open_faces-requires-clause-read c = read_on c.args.a.now c.args.w.now c.passed_on.new.w c.in_ok-opens.ensures.stays c.args.key.now c.requires.key c.args.notes.now.facts c.requires.read

pub open_faces-requires-clause-are : goal.open_faces-requires-clause-are
open_faces-requires-clause-are c = λ k d.
    let f = fresh_of c.args.notes.now.faces (option_copied c.args.parent) c.as_slice.result.now c.in_ok-opens.opens c.args.faces.now c.in_ok-fresh.fresh c.as_slice.ensures c.in_ok-fresh.ensures in
    faces_on c.args.a.now c.args.w.now c.passed_on.new.w c.in_ok-opens.ensures.stays c.args.key.now c.requires.key c.args.faces.now c.requires.faces k
    (f.are k (subst (λ (l : List ℕ). Contains l k) c.as_slice-2.ensures d))

pub open_itself-requires-clause-types : goal.open_itself-requires-clause-types
open_itself-requires-clause-types c =
    subst (KnowsTypes c.args.a.now) (sym (stays_on c.args.w.now c.passed_on.new.w c.open_faces.new.w c.in_ok-opens.ensures.stays c.in_ok-open_faces.ensures.stays).tables) c.requires.types

pub open_itself-requires-clause-read : goal.open_itself-requires-clause-read
open_itself-requires-clause-read c =
    read_on c.args.a.now c.args.w.now c.open_faces.new.w (stays_on c.args.w.now c.passed_on.new.w c.open_faces.new.w c.in_ok-opens.ensures.stays c.in_ok-open_faces.ensures.stays) c.args.key.now
    c.requires.key c.args.notes.now.facts c.requires.read

pub returns-clause-ok : goal.returns-clause-ok
returns-clause-ok c =
    let w = c.args.w.now in
    let w1 = c.passed_on.new.w in
    let f = fresh_of c.args.notes.now.faces (option_copied c.args.parent) c.as_slice.result.now c.in_ok-opens.opens c.args.faces.now c.in_ok-fresh.fresh c.as_slice.ensures c.in_ok-fresh.ensures in
    opened c.args.a.now w w1 c.open_faces.new.w c.open_itself.new.w c.in_ok-opens.ensures.stays c.in_ok-open_faces.ensures.stays c.in_ok-open_itself.ensures.stays c.args.key.now c.requires.key
    (option_copied c.args.parent) c.args.notes.now.faces c.args.faces.now c.in_ok-fresh.fresh c.in_ok-opens.opens c.open_faces.new.opens c.open_itself.new.opens c.requires.parent c.requires.faces
    c.requires.knows.faces c.in_ok-opens.ensures.ok f
    (subst (λ (l : List ℕ). AddsFaces c.args.a.now (hierarchy w1) c.open_faces.new.w.nodes (type_at w1 c.args.key.now) l c.in_ok-opens.opens c.open_faces.new.opens) c.as_slice-2.ensures
    c.in_ok-open_faces.ensures.ok) c.in_ok-open_itself.ensures.ok
