use Rattle.std.proofs.Common.{◌∙◌}
use Rattle.stack_rows.proofs.TypeNodes.{reference_is}
use Rattle.stack_rows.proofs.type_kinds.is_reference.Goals as goal

pub returns-in-Class : goal.returns-in-Class
returns-in-Class c = reference_is c.args.pool.now c.args.id _ _ c.node.ensures.term c.in-Class.is

pub returns-in-Value : goal.returns-in-Value
returns-in-Value c = reference_is c.args.pool.now c.args.id _ _ c.node.ensures.term c.in-Value.is

pub returns-in-Var : goal.returns-in-Var
returns-in-Var c = reference_is c.args.pool.now c.args.id _ _ c.node.ensures.term c.in-Var.is

pub returns-in-MVar : goal.returns-in-MVar
returns-in-MVar c = reference_is c.args.pool.now c.args.id _ _ c.node.ensures.term c.in-MVar.is

pub returns-in-SzArray : goal.returns-in-SzArray
returns-in-SzArray c = reference_is c.args.pool.now c.args.id _ _ c.node.ensures.term c.in-SzArray.is

pub returns-in-Array : goal.returns-in-Array
returns-in-Array c = reference_is c.args.pool.now c.args.id _ _ c.node.ensures.term c.in-Array.is

pub returns-in-ByRef : goal.returns-in-ByRef
returns-in-ByRef c = reference_is c.args.pool.now c.args.id _ _ c.node.ensures.term c.in-ByRef.is

pub returns-in-Pointer : goal.returns-in-Pointer
returns-in-Pointer c = reference_is c.args.pool.now c.args.id _ _ c.node.ensures.term c.in-Pointer.is

pub returns-in-Mod : goal.returns-in-Mod
returns-in-Mod c = reference_is c.args.pool.now c.args.id _ _ c.node.ensures.term c.in-Mod.is

pub returns-in-Pinned : goal.returns-in-Pinned
returns-in-Pinned c = reference_is c.args.pool.now c.args.id _ _ c.node.ensures.term c.in-Pinned.is

pub returns-in-Inst : goal.returns-in-Inst
returns-in-Inst c = reference_is c.args.pool.now c.args.id _ _ c.node.ensures.term c.in-Inst.is

pub returns-in-Prim : goal.returns-in-Prim
returns-in-Prim c = c.is_reference_primitive.ensures ∙ reference_is c.args.pool.now c.args.id _ _ c.node.ensures.term c.in-Prim.is
