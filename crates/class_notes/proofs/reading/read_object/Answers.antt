use Rattle.std.proofs.Common.{subst, sym}
use Rattle.type_hierarchy.specs.Indexed.{KnowsTypes}
use Rattle.class_members.proofs.Worlds.{on_ok_more}
use Rattle.class_notes.proofs.ReadingLemmas.{other_type, declared_object, bare_object, same_types}
use Rattle.class_notes.proofs.reading.read_object.Goals as goal

pub declaration-requires-clause-knows : goal.declaration-requires-clause-knows
declaration-requires-clause-knows c = subst (KnowsTypes c.args.a.now) (sym c.in_ok-object.ensures.stays.tables) c.requires.knows

pub returns-then-not-is_object-clause-ok : goal.returns-then-not-is_object-clause-ok
returns-then-not-is_object-clause-ok c =
    let w = c.args.w.now in
    let w1 = c.primitive_key.new.w in
    let same = same_types c.pool.result.now w1.nodes c.id.result c.id-2.result c.args.at.now c.in_ok-object.object c.same-is_object.result c.pool.ensures c.id.ensures c.id-2.ensures c.same-is_object.ensures.types in
    other_type c.args.a.now w w1 c.in_ok-object.ensures.stays c.args.at.now c.requires.at c.in_ok-object.object c.in_ok-object.ensures.ok w1.nodes c.args.facts.now c.same-is_object.result c.if-not-is_object.true
    same

pub returns-in-Some-clause-ok : goal.returns-in-Some-clause-ok
returns-in-Some-clause-ok c =
    let w = c.args.w.now in
    let w1 = c.primitive_key.new.w in
    declared_object c.args.a.now w w1 c.in_ok-object.ensures.stays c.args.at.now c.requires.at c.in_ok-object.object c.in_ok-object.ensures.ok w1.nodes c.args.facts.now _
    (rw c.in-Some.is at c.in_ok-declared.ensures)

pub returns-in-None-clause-ok : goal.returns-in-None-clause-ok
returns-in-None-clause-ok c =
    let w = c.args.w.now in
    let w1 = c.primitive_key.new.w in
    let same = same_types c.pool.result.now w1.nodes c.id.result c.id-2.result c.args.at.now c.in_ok-object.object c.same-is_object.result c.pool.ensures c.id.ensures c.id-2.ensures c.same-is_object.ensures.types in
    on_ok_more c.add_object_offers.result
    (λ adds. bare_object c.args.a.now w w1 c.in_ok-object.ensures.stays c.args.at.now c.requires.at c.in_ok-object.object c.in_ok-object.ensures.ok c.add_object_offers.new.w.nodes c.args.facts.now
    c.add_object_offers.new.facts c.same-is_object.result c.if-not-is_object.false same (rw c.in-None.is at c.in_ok-declared.ensures) adds)
    c.add_object_offers.ensures.ok
