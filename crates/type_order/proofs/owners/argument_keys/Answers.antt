use Rattle.std.proofs.Common.{◌∙◌, refl}
use Rattle.type_order.proofs.PartLemmas.{no_arguments, instance_arguments}
use Rattle.type_order.proofs.owners.argument_keys.Goals as goal

pub returns-in-Class : goal.returns-in-Class
returns-in-Class c = no_arguments c.args.pool.now c.args.id _ _ _ c.node.ensures.term c.in-Class.is c.new-in-Class.ensures refl

pub returns-in-Value : goal.returns-in-Value
returns-in-Value c = no_arguments c.args.pool.now c.args.id _ _ _ c.node.ensures.term c.in-Value.is c.new-in-Value.ensures refl

pub returns-in-Var : goal.returns-in-Var
returns-in-Var c = no_arguments c.args.pool.now c.args.id _ _ _ c.node.ensures.term c.in-Var.is c.new-in-Var.ensures refl

pub returns-in-MVar : goal.returns-in-MVar
returns-in-MVar c = no_arguments c.args.pool.now c.args.id _ _ _ c.node.ensures.term c.in-MVar.is c.new-in-MVar.ensures refl

pub returns-in-SzArray : goal.returns-in-SzArray
returns-in-SzArray c = no_arguments c.args.pool.now c.args.id _ _ _ c.node.ensures.term c.in-SzArray.is c.new-in-SzArray.ensures refl

pub returns-in-Array : goal.returns-in-Array
returns-in-Array c = no_arguments c.args.pool.now c.args.id _ _ _ c.node.ensures.term c.in-Array.is c.new-in-Array.ensures refl

pub returns-in-ByRef : goal.returns-in-ByRef
returns-in-ByRef c = no_arguments c.args.pool.now c.args.id _ _ _ c.node.ensures.term c.in-ByRef.is c.new-in-ByRef.ensures refl

pub returns-in-Pointer : goal.returns-in-Pointer
returns-in-Pointer c = no_arguments c.args.pool.now c.args.id _ _ _ c.node.ensures.term c.in-Pointer.is c.new-in-Pointer.ensures refl

pub returns-in-Mod : goal.returns-in-Mod
returns-in-Mod c = no_arguments c.args.pool.now c.args.id _ _ _ c.node.ensures.term c.in-Mod.is c.new-in-Mod.ensures refl

pub returns-in-Pinned : goal.returns-in-Pinned
returns-in-Pinned c = no_arguments c.args.pool.now c.args.id _ _ _ c.node.ensures.term c.in-Pinned.is c.new-in-Pinned.ensures refl

pub returns-in-Prim : goal.returns-in-Prim
returns-in-Prim c = no_arguments c.args.pool.now c.args.id _ _ _ c.node.ensures.term c.in-Prim.is c.new.ensures refl

pub returns-in_ok-keys-in-Inst : goal.returns-in_ok-keys-in-Inst
returns-in_ok-keys-in-Inst c = instance_arguments c.args.pool.now c.args.id _ _ _ _ _ c.node.ensures.term c.in-Inst.is c.requires c.node.ensures.below (c.in_ok-keys-in-Inst.ensures ∙ c.as_slice.ensures)
