use Rattle.std.proofs.Common.{sym}
use Rattle.type_hierarchy.proofs.NodeLemmas.{primitive_known}
use Rattle.type_hierarchy.proofs.parents.primitive_parent.Goals as goal

pub returns-clause-ok : goal.returns-clause-ok
returns-clause-ok c =
    rw (sym (primitive_known c.args.tables.now c.args.prim _ _ (λ h. let e = rw h at c.eq.ensures in cc)
    (rw c.in_ok-name.ensures at c.known-known.ensures.above) (rw c.in_ok-name.ensures at c.known-known.ensures.declared))) c.name_parent.ensures.ok
