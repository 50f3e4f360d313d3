use Rattle.class_members.proofs.Worlds.{if_ok_more}
use Rattle.class_members.proofs.Normals.{name_has, spec_has}
use Rattle.class_members.proofs.offering.overridden.Goals as goal

pub returns-in-Spec-clause-ok : goal.returns-in-Spec-clause-ok
returns-in-Spec-clause-ok c =
    rw c.in-Spec.is (if_ok_more c.key_of.result (λ k h. spec_has c.args.w.now c.key_of.new.w.nodes c.args.args.now c.new-none.result c.in-Spec.of k c.new-none.ensures h) c.key_of.ensures.ok)

pub returns-clause-ok : goal.returns-clause-ok
returns-clause-ok c =
    rw c.in-Name.is (if_ok_more c.key_of-in-Name.result (λ k h. name_has c.args.w.now c.key_of-in-Name.new.w.nodes c.args.args.now c.new-none.result c.in-Name.name c.in_ok-name-in-Name.name k c.new-none.ensures
    c.in_ok-name-in-Name.ensures h) c.key_of-in-Name.ensures.ok)
