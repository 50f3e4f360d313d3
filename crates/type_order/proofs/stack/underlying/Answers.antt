use Rattle.std.proofs.Common.{sym, ◌∙◌, ap}
use Rattle.type_hierarchy.specs.Hierarchy.{declared_underlying, instance_underlying}
use Rattle.type_hierarchy.specs.Tables.{hierarchy_in}
use Rattle.type_hierarchy.proofs.NodeLemmas.{underlying_is, known_declaration}
use Rattle.type_order.proofs.stack.underlying.Goals as goal

pub returns-in-Prim : goal.returns-in-Prim
returns-in-Prim c = sym (underlying_is (hierarchy_in c.args.tables.now) c.args.pool.now c.args.id _ _ c.node.ensures.term c.in-Prim.is)

pub returns-in-Class : goal.returns-in-Class
returns-in-Class c = sym (underlying_is (hierarchy_in c.args.tables.now) c.args.pool.now c.args.id _ _ c.node.ensures.term c.in-Class.is)

pub returns-in-Var : goal.returns-in-Var
returns-in-Var c = sym (underlying_is (hierarchy_in c.args.tables.now) c.args.pool.now c.args.id _ _ c.node.ensures.term c.in-Var.is)

pub returns-in-MVar : goal.returns-in-MVar
returns-in-MVar c = sym (underlying_is (hierarchy_in c.args.tables.now) c.args.pool.now c.args.id _ _ c.node.ensures.term c.in-MVar.is)

pub returns-in-SzArray : goal.returns-in-SzArray
returns-in-SzArray c = sym (underlying_is (hierarchy_in c.args.tables.now) c.args.pool.now c.args.id _ _ c.node.ensures.term c.in-SzArray.is)

pub returns-in-Array : goal.returns-in-Array
returns-in-Array c = sym (underlying_is (hierarchy_in c.args.tables.now) c.args.pool.now c.args.id _ _ c.node.ensures.term c.in-Array.is)

pub returns-in-ByRef : goal.returns-in-ByRef
returns-in-ByRef c = sym (underlying_is (hierarchy_in c.args.tables.now) c.args.pool.now c.args.id _ _ c.node.ensures.term c.in-ByRef.is)

pub returns-in-Pointer : goal.returns-in-Pointer
returns-in-Pointer c = sym (underlying_is (hierarchy_in c.args.tables.now) c.args.pool.now c.args.id _ _ c.node.ensures.term c.in-Pointer.is)

pub returns-in-Mod : goal.returns-in-Mod
returns-in-Mod c = sym (underlying_is (hierarchy_in c.args.tables.now) c.args.pool.now c.args.id _ _ c.node.ensures.term c.in-Mod.is)

pub returns-in-Pinned : goal.returns-in-Pinned
returns-in-Pinned c = sym (underlying_is (hierarchy_in c.args.tables.now) c.args.pool.now c.args.id _ _ c.node.ensures.term c.in-Pinned.is)

pub returns-in-Value : goal.returns-in-Value
returns-in-Value c =
    let e = underlying_is (hierarchy_in c.args.tables.now) c.args.pool.now c.args.id _ _ c.node.ensures.term c.in-Value.is in
    let k = known_declaration c.args.tables.now c.in-Value.name _ c.known-known.ensures.declared in
    c.declared_underlying.ensures ∙ ap declared_underlying k ∙ sym e

pub returns-in-Inst : goal.returns-in-Inst
returns-in-Inst c =
    let e = underlying_is (hierarchy_in c.args.tables.now) c.args.pool.now c.args.id _ _ c.node.ensures.term c.in-Inst.is in
    let k = known_declaration c.args.tables.now c.in-Inst.name _ c.known-known-in-Inst.ensures.declared in
    c.instance_underlying.ensures ∙ ap (instance_underlying c.in-Inst.value) k ∙ sym e
