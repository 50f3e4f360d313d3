use Rattle.print_terms.proofs.TypeArms.{name_arm, spec_arm, prim_arm, class_arm, value_arm, inst_arm, var_arm, mvar_arm, vector_arm, array_arm, by_ref_arm, pointer_arm, pinned_arm, mod_arm}
use Rattle.print_terms.proofs.types.+types.Goals as goal

pub write_owner-returns-in_ok-write_type_name-in-Name : goal.write_owner-returns-in_ok-write_type_name-in-Name
write_owner-returns-in_ok-write_type_name-in-Name t c =
    name_arm c.args.externs.now c.args.paper.now _ c.args.of.now _ c.in-Name.is c.in_ok-write_type_name-in-Name.ensures

pub write_owner-returns-in_ok-write_type-in-Spec : goal.write_owner-returns-in_ok-write_type-in-Spec
write_owner-returns-in_ok-write_type-in-Spec t c =
    spec_arm c.args.externs.now c.args.paper.now _ c.args.of.now _ c.in-Spec.is c.in_ok-write_type-in-Spec.ensures

pub write_type-returns-in_ok-write_primitive-in-Prim : goal.write_type-returns-in_ok-write_primitive-in-Prim
write_type-returns-in_ok-write_primitive-in-Prim t c =
    prim_arm c.args.externs.now c.args.paper.now _ c.args.of.now _ c.in-Prim.is c.in_ok-write_primitive-in-Prim.ensures

pub write_type-returns-in_ok-write_named-in-Class : goal.write_type-returns-in_ok-write_named-in-Class
write_type-returns-in_ok-write_named-in-Class t c =
    class_arm c.args.externs.now c.args.paper.now _ c.args.of.now _ c.in-Class.is c.in_ok-write_named-in-Class.ensures

pub write_type-returns-in_ok-write_named-in-Value : goal.write_type-returns-in_ok-write_named-in-Value
write_type-returns-in_ok-write_named-in-Value t c =
    value_arm c.args.externs.now c.args.paper.now _ c.args.of.now _ c.in-Value.is c.in_ok-write_named-in-Value.ensures

pub write_type-returns-in_ok-word-in-Inst-2 : goal.write_type-returns-in_ok-word-in-Inst-2
write_type-returns-in_ok-word-in-Inst-2 t c =
    inst_arm c.args.externs.now c.args.paper.now _ c.args.of.now _ _ _ _ _ _ _ _ _ c.in-Inst.is c.get.ensures c.get-in-Inst.ensures c.as_slice.ensures c.in_ok-write_named-in-Inst.ensures c.in_ok-word-in-Inst.ensures c.in_ok-write_types-in-Inst.ensures c.in_ok-word-in-Inst-2.ensures

pub write_type-returns-in_ok-write_variable-in-Var : goal.write_type-returns-in_ok-write_variable-in-Var
write_type-returns-in_ok-write_variable-in-Var t c =
    var_arm c.args.externs.now c.args.paper.now _ c.args.of.now _ c.in-Var.is c.in_ok-write_variable-in-Var.ensures

pub write_type-returns-in_ok-write_variable-in-MVar : goal.write_type-returns-in_ok-write_variable-in-MVar
write_type-returns-in_ok-write_variable-in-MVar t c =
    mvar_arm c.args.externs.now c.args.paper.now _ c.args.of.now _ c.in-MVar.is c.in_ok-write_variable-in-MVar.ensures

pub write_type-returns-in_ok-word-in-SzArray-2 : goal.write_type-returns-in_ok-word-in-SzArray-2
write_type-returns-in_ok-word-in-SzArray-2 t c =
    vector_arm c.args.externs.now c.args.paper.now _ c.args.of.now _ _ _ _ c.in-SzArray.is c.get-in-SzArray.ensures c.in_ok-write_type-in-SzArray.ensures c.in_ok-word-in-SzArray.ensures c.in_ok-word-in-SzArray-2.ensures

pub write_type-returns-in_ok-write_shape-in-Array : goal.write_type-returns-in_ok-write_shape-in-Array
write_type-returns-in_ok-write_shape-in-Array t c =
    array_arm c.args.externs.now c.args.paper.now _ c.args.of.now _ _ _ _ _ _ _ _ _ _ c.in-Array.is c.get-in-Array.ensures c.get-in-Array-2.ensures c.as_slice-in-Array.ensures c.get-in-Array-3.ensures c.as_slice-in-Array-2.ensures c.in_ok-write_type-in-Array.ensures c.in_ok-write_shape-in-Array.ensures

pub write_type-returns-in_ok-word-in-ByRef : goal.write_type-returns-in_ok-word-in-ByRef
write_type-returns-in_ok-word-in-ByRef t c =
    by_ref_arm c.args.externs.now c.args.paper.now _ c.args.of.now _ _ _ c.in-ByRef.is c.get-in-ByRef.ensures c.in_ok-write_type-in-ByRef.ensures c.in_ok-word-in-ByRef.ensures

pub write_type-returns-in_ok-word-in-Pointer : goal.write_type-returns-in_ok-word-in-Pointer
write_type-returns-in_ok-word-in-Pointer t c =
    pointer_arm c.args.externs.now c.args.paper.now _ c.args.of.now _ _ _ c.in-Pointer.is c.get-in-Pointer.ensures c.in_ok-write_type-in-Pointer.ensures c.in_ok-word-in-Pointer.ensures

pub write_type-returns-in_ok-word-in-Pinned : goal.write_type-returns-in_ok-word-in-Pinned
write_type-returns-in_ok-word-in-Pinned t c =
    pinned_arm c.args.externs.now c.args.paper.now _ c.args.of.now _ _ _ c.in-Pinned.is c.get-in-Pinned.ensures c.in_ok-write_type-in-Pinned.ensures c.in_ok-word-in-Pinned.ensures

pub write_type-returns-in_ok-word-in-Mod-3 : goal.write_type-returns-in_ok-word-in-Mod-3
write_type-returns-in_ok-word-in-Mod-3 t c =
    mod_arm c.args.externs.now c.args.paper.now _ c.args.of.now _ _ _ _ _ _ _ _ _ _ c.in-Mod.is c.get-in-Mod.ensures c.mod_word.ensures c.get-in-Mod-2.ensures c.in_ok-write_type-in-Mod.ensures c.in_ok-word-in-Mod.ensures c.in_ok-word-in-Mod-2.ensures c.in_ok-write_owner-in-Mod.ensures c.in_ok-word-in-Mod-3.ensures
