use Rattle.std.proofs.Common.{subst, sym, length}
use Rattle.sig_pool.specs.Terms.{AllBelow}
use Rattle.type_hierarchy.specs.Indexed.{KnowsTypes}
use Rattle.class_notes.proofs.FreshLemmas.{led_faces_are}
use Rattle.class_notes.proofs.fresh.led_faces.Goals as goal

pub more_faces-requires-clause-types : goal.more_faces-requires-clause-types
more_faces-requires-clause-types c = subst (KnowsTypes c.args.a.now) (sym c.in_ok-own.ensures.stays.tables) c.requires.knows

pub more_faces-requires-clause-own : goal.more_faces-requires-clause-own
more_faces-requires-clause-own c = subst (AllBelow (length c.interfaces_of.new.w.nodes)) (sym c.as_slice.ensures) c.in_ok-own.ensures.ok.within

pub returns-clause-ok : goal.returns-clause-ok
returns-clause-ok c =
    led_faces_are c.args.a.now c.args.w.now c.interfaces_of.new.w c.more_faces.new.w.nodes c.args.key.now c.in_ok-own.own c.as_slice.result.now c.more_faces.result c.in_ok-own.ensures.stays
    c.in_ok-own.ensures.ok c.as_slice.ensures c.more_faces.ensures.faces
