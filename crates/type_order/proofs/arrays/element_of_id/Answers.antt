use Rattle.std.proofs.Common.{sym}
use Rattle.sig_pool.specs.Terms.{term_of}
use Rattle.type_hierarchy.proofs.NodeLemmas.{elements_are}
use Rattle.type_order.proofs.arrays.element_of_id.Goals as goal

pub returns-in-SzArray-clause-is : goal.returns-in-SzArray-clause-is
unfolding term_of
returns-in-SzArray-clause-is c = sym (elements_are c.args.pool.now c.args.id _ _ c.node.ensures.term c.in-SzArray.is)

pub returns-in-Array-clause-is : goal.returns-in-Array-clause-is
unfolding term_of
returns-in-Array-clause-is c = sym (elements_are c.args.pool.now c.args.id _ _ c.node.ensures.term c.in-Array.is)

pub returns-in-Prim-clause-is : goal.returns-in-Prim-clause-is
returns-in-Prim-clause-is c = sym (elements_are c.args.pool.now c.args.id _ _ c.node.ensures.term c.in-Prim.is)

pub returns-in-Class-clause-is : goal.returns-in-Class-clause-is
returns-in-Class-clause-is c = sym (elements_are c.args.pool.now c.args.id _ _ c.node.ensures.term c.in-Class.is)

pub returns-in-Value-clause-is : goal.returns-in-Value-clause-is
returns-in-Value-clause-is c = sym (elements_are c.args.pool.now c.args.id _ _ c.node.ensures.term c.in-Value.is)

pub returns-in-Inst-clause-is : goal.returns-in-Inst-clause-is
returns-in-Inst-clause-is c = sym (elements_are c.args.pool.now c.args.id _ _ c.node.ensures.term c.in-Inst.is)

pub returns-in-Var-clause-is : goal.returns-in-Var-clause-is
returns-in-Var-clause-is c = sym (elements_are c.args.pool.now c.args.id _ _ c.node.ensures.term c.in-Var.is)

pub returns-in-MVar-clause-is : goal.returns-in-MVar-clause-is
returns-in-MVar-clause-is c = sym (elements_are c.args.pool.now c.args.id _ _ c.node.ensures.term c.in-MVar.is)

pub returns-in-ByRef-clause-is : goal.returns-in-ByRef-clause-is
returns-in-ByRef-clause-is c = sym (elements_are c.args.pool.now c.args.id _ _ c.node.ensures.term c.in-ByRef.is)

pub returns-in-Pointer-clause-is : goal.returns-in-Pointer-clause-is
returns-in-Pointer-clause-is c = sym (elements_are c.args.pool.now c.args.id _ _ c.node.ensures.term c.in-Pointer.is)

pub returns-in-Mod-clause-is : goal.returns-in-Mod-clause-is
returns-in-Mod-clause-is c = sym (elements_are c.args.pool.now c.args.id _ _ c.node.ensures.term c.in-Mod.is)

pub returns-in-Pinned-clause-is : goal.returns-in-Pinned-clause-is
returns-in-Pinned-clause-is c = sym (elements_are c.args.pool.now c.args.id _ _ c.node.ensures.term c.in-Pinned.is)
