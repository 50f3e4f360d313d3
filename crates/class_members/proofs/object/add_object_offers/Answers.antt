use Rattle.type_hierarchy.specs.Hierarchy.{object}
use Rattle.type_hierarchy.proofs.GrowLemmas.{has_extends}
use Rattle.class_members.proofs.Objects.{below_none, below_one, object_adds, terms_none, terms_one}
use Rattle.class_members.proofs.Worlds.{on_ok_more, stays_on}
use Rattle.class_members.proofs.object.add_object_offers.Goals as goal

pub add_member-requires : goal.add_member-requires
add_member-requires c = below_none _ c.new-none.result c.new-none.ensures

pub add_member-requires-2 : goal.add_member-requires-2
add_member-requires-2 c =
    let h = has_extends c.primitive_key.new.w.nodes c.add_member.new.w.nodes c.in_ok-object.object _ c.in_ok-object.ensures.ok c.in_ok-add_member.ensures.stays.nodes in
    below_one _ c.in_ok-object.object c.in_ok-one.one c.in_ok-one.ensures h.within

pub add_member-requires-3 : goal.add_member-requires-3
add_member-requires-3 c = below_none _ c.new-none.result c.new-none.ensures

pub returns-clause-ok : goal.returns-clause-ok
returns-clause-ok c =
    let h = has_extends c.primitive_key.new.w.nodes c.add_member.new.w.nodes c.in_ok-object.object _ c.in_ok-object.ensures.ok c.in_ok-add_member.ensures.stays.nodes in
    on_ok_more c.add_member-3.result
    (λ r. object_adds c.primitive_key.new.w.nodes c.add_member.new.w.nodes c.add_member-2.new.w.nodes c.add_member-3.new.w.nodes c.in_ok-add_member-2.ensures.stays.nodes c.add_member-3.ensures.stays.nodes
    c.args.at.now c.as_bytes.result.now c.as_bytes-2.result.now c.as_bytes-3.result.now _ _ _ c.args.facts.now c.add_member.new.facts c.add_member-2.new.facts c.add_member-3.new.facts c.as_bytes.ensures.value
    c.as_bytes-2.ensures.value c.as_bytes-3.ensures.value (terms_none c.primitive_key.new.w.nodes c.new-none.result c.new-none.ensures)
    (terms_one c.add_member.new.w.nodes c.in_ok-object.object c.in_ok-one.one object c.in_ok-one.ensures h.term) (terms_none c.add_member-2.new.w.nodes c.new-none.result c.new-none.ensures)
    c.in_ok-add_member.ensures.ok c.in_ok-add_member-2.ensures.ok r)
    c.add_member-3.ensures.ok

pub returns-clause-stays : goal.returns-clause-stays
returns-clause-stays c =
    let w1 = c.primitive_key.new.w in
    let w2 = c.add_member.new.w in
    let w3 = c.add_member-2.new.w in
    stays_on c.args.w.now w1 c.add_member-3.new.w c.in_ok-object.ensures.stays
    (stays_on w1 w2 c.add_member-3.new.w c.in_ok-add_member.ensures.stays (stays_on w2 w3 c.add_member-3.new.w c.in_ok-add_member-2.ensures.stays c.add_member-3.ensures.stays))
