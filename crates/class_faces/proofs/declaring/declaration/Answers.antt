use Rattle.std.proofs.Common.{◌∙◌, ap, refl}
use Rattle.type_terms.specs.declared.name.Scope.{Scope}
use Rattle.assembly_tree.specs.DataSize.{declared}
use Rattle.type_hierarchy.specs.Hierarchy.{core_name}
use Rattle.type_hierarchy.specs.Names.{class_of, full_name}
use Rattle.type_hierarchy.specs.World.{hierarchy}
use Rattle.class_faces.proofs.DeclaredTypes.{named_by, undeclared}
use Rattle.class_faces.proofs.declaring.declaration.Goals as goal

pub returns-in-Class : goal.returns-in-Class
returns-in-Class c =
    named_by c.args.a.now (hierarchy c.args.w.now) c.args.w.now.nodes c.pool.result.now c.args.key.now c.id.result _ _ c.in-Class.name _ c.pool.ensures c.id.ensures c.node.ensures.term c.in-Class.is refl c.type_named.ensures

pub returns-in-Value : goal.returns-in-Value
returns-in-Value c =
    named_by c.args.a.now (hierarchy c.args.w.now) c.args.w.now.nodes c.pool.result.now c.args.key.now c.id.result _ _ c.in-Value.name _ c.pool.ensures c.id.ensures c.node.ensures.term c.in-Value.is refl c.type_named-in-Value.ensures

pub returns-in-Inst : goal.returns-in-Inst
returns-in-Inst c =
    named_by c.args.a.now (hierarchy c.args.w.now) c.args.w.now.nodes c.pool.result.now c.args.key.now c.id.result _ _ c.in-Inst.name _ c.pool.ensures c.id.ensures c.node.ensures.term c.in-Inst.is refl c.type_named-in-Inst.ensures

pub returns-in_ok-name-in-Prim : goal.returns-in_ok-name-in-Prim
returns-in_ok-name-in-Prim c =
    let w = hierarchy c.args.w.now in
    let prim = c.in-Prim.prim in
    named_by c.args.a.now w c.args.w.now.nodes c.pool.result.now c.args.key.now c.id.result _ _ (core_name w (class_of prim)) _ c.pool.ensures c.id.ensures c.node.ensures.term c.in-Prim.is
    refl
    (c.type_named-in-Prim.ensures ∙ ap (declared c.args.a.now) (c.in_ok-name-in-Prim.ensures ∙ ap (λ (s : Scope). full_name s (class_of prim)) c.core_scope.ensures))

pub returns-in-Var : goal.returns-in-Var
returns-in-Var c = undeclared c.args.a.now (hierarchy c.args.w.now) c.args.w.now.nodes c.pool.result.now c.args.key.now c.id.result _ _ c.pool.ensures c.id.ensures c.node.ensures.term c.in-Var.is refl

pub returns-in-MVar : goal.returns-in-MVar
returns-in-MVar c = undeclared c.args.a.now (hierarchy c.args.w.now) c.args.w.now.nodes c.pool.result.now c.args.key.now c.id.result _ _ c.pool.ensures c.id.ensures c.node.ensures.term c.in-MVar.is refl

pub returns-in-SzArray : goal.returns-in-SzArray
returns-in-SzArray c = undeclared c.args.a.now (hierarchy c.args.w.now) c.args.w.now.nodes c.pool.result.now c.args.key.now c.id.result _ _ c.pool.ensures c.id.ensures c.node.ensures.term c.in-SzArray.is refl

pub returns-in-Array : goal.returns-in-Array
returns-in-Array c = undeclared c.args.a.now (hierarchy c.args.w.now) c.args.w.now.nodes c.pool.result.now c.args.key.now c.id.result _ _ c.pool.ensures c.id.ensures c.node.ensures.term c.in-Array.is refl

pub returns-in-ByRef : goal.returns-in-ByRef
returns-in-ByRef c = undeclared c.args.a.now (hierarchy c.args.w.now) c.args.w.now.nodes c.pool.result.now c.args.key.now c.id.result _ _ c.pool.ensures c.id.ensures c.node.ensures.term c.in-ByRef.is refl

pub returns-in-Pointer : goal.returns-in-Pointer
returns-in-Pointer c = undeclared c.args.a.now (hierarchy c.args.w.now) c.args.w.now.nodes c.pool.result.now c.args.key.now c.id.result _ _ c.pool.ensures c.id.ensures c.node.ensures.term c.in-Pointer.is refl

pub returns-in-Mod : goal.returns-in-Mod
returns-in-Mod c = undeclared c.args.a.now (hierarchy c.args.w.now) c.args.w.now.nodes c.pool.result.now c.args.key.now c.id.result _ _ c.pool.ensures c.id.ensures c.node.ensures.term c.in-Mod.is refl

pub returns-in-Pinned : goal.returns-in-Pinned
returns-in-Pinned c = undeclared c.args.a.now (hierarchy c.args.w.now) c.args.w.now.nodes c.pool.result.now c.args.key.now c.id.result _ _ c.pool.ensures c.id.ensures c.node.ensures.term c.in-Pinned.is refl
