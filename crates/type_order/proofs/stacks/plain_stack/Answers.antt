use Rattle.std.proofs.Common.{◌∙◌, refl}
use Rattle.type_hierarchy.specs.Tables.{hierarchy_in}
use Rattle.type_hierarchy.proofs.NodeLemmas.{plain_is, pointed, means_instance}
use Rattle.type_order.proofs.stacks.plain_stack.Goals as goal

pub returns-in-Prim-clause-ok : goal.returns-in-Prim-clause-ok
returns-in-Prim-clause-ok c =
    rw (plain_is (hierarchy_in c.args.tables.now) c.args.pool.now c.args.id _ _ c.node.ensures.term c.in-Prim.is) c.primitive_stack.ensures.ok

pub returns-in-ByRef-clause-ok : goal.returns-in-ByRef-clause-ok
returns-in-ByRef-clause-ok c =
    let e = plain_is (hierarchy_in c.args.tables.now) c.args.pool.now c.args.id _ _ c.node.ensures.term c.in-ByRef.is in
    rw (e ∙ pointed (hierarchy_in c.args.tables.now) c.args.pool.now c.in-ByRef.of) c.pointer_to_id.ensures.ok

pub returns-in-Inst-clause-ok : goal.returns-in-Inst-clause-ok
returns-in-Inst-clause-ok c =
    rw (plain_is (hierarchy_in c.args.tables.now) c.args.pool.now c.args.id _ _ c.node.ensures.term c.in-Inst.is, c.instance_stack.ensures) (means_instance c.args.pool.now c.in-Inst.value c.args.id c.requires.id)

pub returns-in-Class-clause-ok : goal.returns-in-Class-clause-ok
returns-in-Class-clause-ok c =
    rw (plain_is (hierarchy_in c.args.tables.now) c.args.pool.now c.args.id _ _ c.node.ensures.term c.in-Class.is, c.new.ensures) (record { within = c.requires.id; is = refl })

pub returns-in-SzArray-clause-ok : goal.returns-in-SzArray-clause-ok
returns-in-SzArray-clause-ok c =
    rw (plain_is (hierarchy_in c.args.tables.now) c.args.pool.now c.args.id _ _ c.node.ensures.term c.in-SzArray.is, c.new-in-SzArray.ensures) (record { within = c.requires.id; is = refl })

pub returns-in-Array-clause-ok : goal.returns-in-Array-clause-ok
returns-in-Array-clause-ok c =
    rw (plain_is (hierarchy_in c.args.tables.now) c.args.pool.now c.args.id _ _ c.node.ensures.term c.in-Array.is, c.new-in-Array.ensures) (record { within = c.requires.id; is = refl })

pub returns-in-Value-clause-ok : goal.returns-in-Value-clause-ok
returns-in-Value-clause-ok c =
    rw (plain_is (hierarchy_in c.args.tables.now) c.args.pool.now c.args.id _ _ c.node.ensures.term c.in-Value.is, c.new-in-Value.ensures) (record { within = c.requires.id; is = refl })

pub returns-in-Var-clause-ok : goal.returns-in-Var-clause-ok
returns-in-Var-clause-ok c =
    rw (plain_is (hierarchy_in c.args.tables.now) c.args.pool.now c.args.id _ _ c.node.ensures.term c.in-Var.is, c.new-in-Var.ensures) (record { within = c.requires.id; is = refl })

pub returns-in-MVar-clause-ok : goal.returns-in-MVar-clause-ok
returns-in-MVar-clause-ok c =
    rw (plain_is (hierarchy_in c.args.tables.now) c.args.pool.now c.args.id _ _ c.node.ensures.term c.in-MVar.is, c.new-in-MVar.ensures) (record { within = c.requires.id; is = refl })

pub returns-in-Pointer-clause-ok : goal.returns-in-Pointer-clause-ok
returns-in-Pointer-clause-ok c =
    rw (plain_is (hierarchy_in c.args.tables.now) c.args.pool.now c.args.id _ _ c.node.ensures.term c.in-Pointer.is) (record { within = tt; is = refl })

pub returns-in-Mod-clause-ok : goal.returns-in-Mod-clause-ok
returns-in-Mod-clause-ok c =
    rw (plain_is (hierarchy_in c.args.tables.now) c.args.pool.now c.args.id _ _ c.node.ensures.term c.in-Mod.is) (record { within = tt; is = refl })

pub returns-in-Pinned-clause-ok : goal.returns-in-Pinned-clause-ok
returns-in-Pinned-clause-ok c =
    rw (plain_is (hierarchy_in c.args.tables.now) c.args.pool.now c.args.id _ _ c.node.ensures.term c.in-Pinned.is) (record { within = tt; is = refl })
