use Rattle.std.proofs.Common.{sym, ◌∙◌, ap, rules, Some}
use Rattle.type_hierarchy.specs.Tables.{hierarchy_in}
use Rattle.type_hierarchy.proofs.NodeLemmas.{parent_is, known_parent, known_instance}
use Rattle.type_hierarchy.proofs.parents.parent_id.Goals as goal

pub returns-in-Prim-clause-ok : goal.returns-in-Prim-clause-ok
returns-in-Prim-clause-ok c =
    rw (parent_is (hierarchy_in c.args.tables.now) c.args.pool.now c.args.id _ _ c.node.ensures.term c.in-Prim.is) c.primitive_parent.ensures.ok

pub returns-in-SzArray-clause-ok : goal.returns-in-SzArray-clause-ok
returns-in-SzArray-clause-ok c =
    rw (parent_is (hierarchy_in c.args.tables.now) c.args.pool.now c.args.id _ _ c.node.ensures.term c.in-SzArray.is) c.array_parent.ensures.ok

pub returns-in-Array-clause-ok : goal.returns-in-Array-clause-ok
returns-in-Array-clause-ok c =
    rw (parent_is (hierarchy_in c.args.tables.now) c.args.pool.now c.args.id _ _ c.node.ensures.term c.in-Array.is) c.array_parent-in-Array.ensures.ok

pub returns-in-Var-clause-ok : goal.returns-in-Var-clause-ok
returns-in-Var-clause-ok c =
    rw (parent_is (hierarchy_in c.args.tables.now) c.args.pool.now c.args.id _ _ c.node.ensures.term c.in-Var.is) c.object_parent.ensures.ok

pub returns-in-MVar-clause-ok : goal.returns-in-MVar-clause-ok
returns-in-MVar-clause-ok c =
    rw (parent_is (hierarchy_in c.args.tables.now) c.args.pool.now c.args.id _ _ c.node.ensures.term c.in-MVar.is) c.object_parent-in-MVar.ensures.ok

pub returns-in-ByRef-clause-ok : goal.returns-in-ByRef-clause-ok
returns-in-ByRef-clause-ok c =
    rw (parent_is (hierarchy_in c.args.tables.now) c.args.pool.now c.args.id _ _ c.node.ensures.term c.in-ByRef.is) c.object_parent-in-ByRef.ensures.ok

pub returns-in-Pointer-clause-ok : goal.returns-in-Pointer-clause-ok
returns-in-Pointer-clause-ok c =
    rw (parent_is (hierarchy_in c.args.tables.now) c.args.pool.now c.args.id _ _ c.node.ensures.term c.in-Pointer.is) c.object_parent-in-Pointer.ensures.ok

pub returns-in-Mod-clause-ok : goal.returns-in-Mod-clause-ok
returns-in-Mod-clause-ok c =
    rw (parent_is (hierarchy_in c.args.tables.now) c.args.pool.now c.args.id _ _ c.node.ensures.term c.in-Mod.is) c.object_parent-in-Mod.ensures.ok

pub returns-in-Pinned-clause-ok : goal.returns-in-Pinned-clause-ok
returns-in-Pinned-clause-ok c =
    rw (parent_is (hierarchy_in c.args.tables.now) c.args.pool.now c.args.id _ _ c.node.ensures.term c.in-Pinned.is) c.object_parent-in-Pinned.ensures.ok

pub returns-in-Class-clause-ok : goal.returns-in-Class-clause-ok
returns-in-Class-clause-ok c =
    let e = parent_is (hierarchy_in c.args.tables.now) c.args.pool.now c.args.id _ _ c.node.ensures.term c.in-Class.is in
    let k = known_parent c.args.tables.now c.in-Class.name _ _ c.known-known.ensures.above c.known-known.ensures.declared in
    rw (e ∙ ap Some (sym k)) c.name_parent.ensures.ok

pub returns-in-Value-clause-ok : goal.returns-in-Value-clause-ok
returns-in-Value-clause-ok c =
    let e = parent_is (hierarchy_in c.args.tables.now) c.args.pool.now c.args.id _ _ c.node.ensures.term c.in-Value.is in
    let k = known_parent c.args.tables.now c.in-Value.name _ _ c.known-known-in-Value.ensures.above c.known-known-in-Value.ensures.declared in
    rw (e ∙ ap Some (sym k)) c.name_parent-in-Value.ensures.ok

pub returns-in_ok-args-in-Inst-clause-ok : goal.returns-in_ok-args-in-Inst-clause-ok
returns-in_ok-args-in-Inst-clause-ok c =
    let e = parent_is (hierarchy_in c.args.tables.now) c.args.pool.now c.args.id _ _ c.node.ensures.term c.in-Inst.is in
    let k = known_instance c.args.tables.now c.args.pool.now c.in-Inst.args c.in_ok-args-in-Inst.args c.in-Inst.name _ (search rules) c.known-known-in-Inst.ensures.declared in
    rw (e ∙ k) c.instance_parent.ensures.ok
