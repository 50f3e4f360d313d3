use Rattle.type_hierarchy.proofs.NodeLemmas.{instance_is}
use Rattle.type_hierarchy.proofs.parents.instance_parent.Goals as goal

pub returns-in_ok-parent-in-Some-clause-ok : goal.returns-in_ok-parent-in-Some-clause-ok
returns-in_ok-parent-in-Some-clause-ok c =
    rw c.in-Some.is (instance_is c.args.pool.now _ _ c.args.args.now c.in-Some.declared.now _ _ c.base_id.ensures.extends c.requires.args
    c.in_ok-base-in-Some.ensures.ok (rw c.new.ensures at c.in_ok-parent-in-Some.ensures.ok))
