use Rattle.std.proofs.Common.{[]}
use Rattle.class_members.proofs.Objects.{member_adds}
use Rattle.class_members.proofs.Worlds.{on_ok_more}
use Rattle.class_members.proofs.object.add_member.Goals as goal

pub returns-clause-ok : goal.returns-clause-ok
returns-clause-ok c =
    on_ok_more c.add.result
    (λ h. member_adds c.args.w.now.nodes c.primitive_key.new.w.nodes c.in_ok-of.ensures.stays.nodes c.args.params.now c.as_slice.result.now c.as_slice.ensures c.requires c.args.at.now c.args.name.now c.args.ret
    c.in_ok-of.of [] c.in_ok-fact.fact c.as_slice-2.result.now c.args.facts.now c.add.new.self c.in_ok-of.ensures.ok c.in_ok-fact.ensures c.as_slice-2.ensures h)
    c.add.ensures
