use Rattle.std.proofs.Common.{sym, ◌∙◌, ap, rules}
use Rattle.type_hierarchy.specs.Hierarchy.{declared_interfaces}
use Rattle.type_hierarchy.specs.Tables.{hierarchy_in}
use Rattle.type_hierarchy.proofs.GrowLemmas.{none_yet, put_in_none}
use Rattle.type_hierarchy.proofs.NodeLemmas.{interfaces_are, known_declaration, prim_declaration, instance_interfaces}
use Rattle.type_order.proofs.interfaces.interface_ids.Goals as goal

pub returns-in-SzArray-clause-ok : goal.returns-in-SzArray-clause-ok
returns-in-SzArray-clause-ok c =
    rw (c.new.ensures, interfaces_are (hierarchy_in c.args.tables.now) c.args.pool.now c.args.id _ _ c.node.ensures.term c.in-SzArray.is) (none_yet _)

pub returns-in-Array-clause-ok : goal.returns-in-Array-clause-ok
returns-in-Array-clause-ok c =
    rw (c.new-in-Array.ensures, interfaces_are (hierarchy_in c.args.tables.now) c.args.pool.now c.args.id _ _ c.node.ensures.term c.in-Array.is) (none_yet _)

pub returns-in-Var-clause-ok : goal.returns-in-Var-clause-ok
returns-in-Var-clause-ok c =
    rw (c.new-in-Var.ensures, interfaces_are (hierarchy_in c.args.tables.now) c.args.pool.now c.args.id _ _ c.node.ensures.term c.in-Var.is) (none_yet _)

pub returns-in-MVar-clause-ok : goal.returns-in-MVar-clause-ok
returns-in-MVar-clause-ok c =
    rw (c.new-in-MVar.ensures, interfaces_are (hierarchy_in c.args.tables.now) c.args.pool.now c.args.id _ _ c.node.ensures.term c.in-MVar.is) (none_yet _)

pub returns-in-ByRef-clause-ok : goal.returns-in-ByRef-clause-ok
returns-in-ByRef-clause-ok c =
    rw (c.new-in-ByRef.ensures, interfaces_are (hierarchy_in c.args.tables.now) c.args.pool.now c.args.id _ _ c.node.ensures.term c.in-ByRef.is) (none_yet _)

pub returns-in-Pointer-clause-ok : goal.returns-in-Pointer-clause-ok
returns-in-Pointer-clause-ok c =
    rw (c.new-in-Pointer.ensures, interfaces_are (hierarchy_in c.args.tables.now) c.args.pool.now c.args.id _ _ c.node.ensures.term c.in-Pointer.is) (none_yet _)

pub returns-in-Mod-clause-ok : goal.returns-in-Mod-clause-ok
returns-in-Mod-clause-ok c =
    rw (c.new-in-Mod.ensures, interfaces_are (hierarchy_in c.args.tables.now) c.args.pool.now c.args.id _ _ c.node.ensures.term c.in-Mod.is) (none_yet _)

pub returns-in-Pinned-clause-ok : goal.returns-in-Pinned-clause-ok
returns-in-Pinned-clause-ok c =
    rw (c.new-in-Pinned.ensures, interfaces_are (hierarchy_in c.args.tables.now) c.args.pool.now c.args.id _ _ c.node.ensures.term c.in-Pinned.is) (none_yet _)

pub returns-in-Class-clause-ok : goal.returns-in-Class-clause-ok
returns-in-Class-clause-ok c =
    let e = interfaces_are (hierarchy_in c.args.tables.now) c.args.pool.now c.args.id _ _ c.node.ensures.term c.in-Class.is in
    let k = known_declaration c.args.tables.now c.in-Class.name _ c.known-known-in-Class.ensures.declared in
    rw (e ∙ ap declared_interfaces (sym k) ∙ sym (put_in_none _)) c.plain-in-Class.ensures.ok

pub returns-in-Value-clause-ok : goal.returns-in-Value-clause-ok
returns-in-Value-clause-ok c =
    let e = interfaces_are (hierarchy_in c.args.tables.now) c.args.pool.now c.args.id _ _ c.node.ensures.term c.in-Value.is in
    let k = known_declaration c.args.tables.now c.in-Value.name _ c.known-known-in-Value.ensures.declared in
    rw (e ∙ ap declared_interfaces (sym k) ∙ sym (put_in_none _)) c.plain-in-Value.ensures.ok

pub returns-in_ok-name-in-Prim-clause-ok : goal.returns-in_ok-name-in-Prim-clause-ok
returns-in_ok-name-in-Prim-clause-ok c =
    let e = interfaces_are (hierarchy_in c.args.tables.now) c.args.pool.now c.args.id _ _ c.node.ensures.term c.in-Prim.is in
    let k = prim_declaration c.args.tables.now c.in-Prim.prim _ (rw c.in_ok-name-in-Prim.ensures at c.known-known.ensures.declared) in
    rw (e ∙ ap declared_interfaces (sym k) ∙ sym (put_in_none _)) c.plain.ensures.ok

pub returns-in_ok-args-in-Inst-clause-ok : goal.returns-in_ok-args-in-Inst-clause-ok
returns-in_ok-args-in-Inst-clause-ok c =
    let e = interfaces_are (hierarchy_in c.args.tables.now) c.args.pool.now c.args.id _ _ c.node.ensures.term c.in-Inst.is in
    let k = instance_interfaces c.args.tables.now c.args.pool.now c.in-Inst.args c.in_ok-args-in-Inst.args c.in-Inst.name _ (search rules) c.known-known-in-Inst.ensures.declared in
    rw (e ∙ k) c.instantiated.ensures.ok
