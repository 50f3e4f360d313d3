use Rattle.std.proofs.Common.{subst, sym, length}
use Rattle.sig_pool.specs.Terms.{AllBelow}
use Rattle.type_hierarchy.specs.Indexed.{KnowsTypes}
use Rattle.type_hierarchy.proofs.GrowLemmas.{below_extends}
use Rattle.class_members.proofs.Worlds.{on_ok_more, stays_on}
use Rattle.class_notes.proofs.ReadingLemmas.{read_is}
use Rattle.class_notes.proofs.reading.read.Goals as goal

pub read_overrides-requires-clause-knows : goal.read_overrides-requires-clause-knows
read_overrides-requires-clause-knows c = subst (KnowsTypes c.args.a.now) (sym c.in_ok-add_offers.ensures.stays.tables) c.requires.knows

pub read_overrides-requires-clause-faces : goal.read_overrides-requires-clause-faces
read_overrides-requires-clause-faces c =
    subst (AllBelow (length c.add_offers.new.w.nodes)) (sym c.as_slice.ensures)
    (below_extends c.args.w.now.nodes c.add_offers.new.w.nodes c.args.led.now.overriding c.in_ok-add_offers.ensures.stays.nodes c.requires.led.overriding.within)

pub read_object-requires-clause-knows : goal.read_object-requires-clause-knows
read_object-requires-clause-knows c =
    let s = stays_on c.args.w.now c.add_offers.new.w c.read_overrides.new.w c.in_ok-add_offers.ensures.stays c.in_ok-read_overrides.ensures.stays in
    subst (KnowsTypes c.args.a.now) (sym s.tables) c.requires.knows

pub returns-clause-ok : goal.returns-clause-ok
returns-clause-ok c =
    on_ok_more c.read_object.result
    (λ h. read_is c.args.a.now c.args.w.now c.add_offers.new.w c.read_overrides.new.w c.read_object.new.w.nodes c.args.at.now c.requires.at c.in_ok-add_offers.ensures.stays
    c.in_ok-read_overrides.ensures.stays c.read_object.ensures.stays.nodes c.args.led.now c.as_slice.result.now c.as_slice.ensures c.args.facts.now c.add_offers.new.facts c.read_overrides.new.facts
    c.read_object.new.facts c.requires.led c.in_ok-add_offers.ensures.ok c.in_ok-read_overrides.ensures.ok h)
    c.read_object.ensures.ok
