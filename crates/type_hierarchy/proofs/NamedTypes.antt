-- The names of types that are made of one.
use Rattle.std.proofs.Common.{◌≡◌, ap, Bool, List, Some}
use Rattle.type_terms.specs.declared.name.TypeName.{TypeName}
use Rattle.type_terms.specs.declared.term.Primitive.{Primitive}
use Rattle.type_terms.specs.declared.term.SigType.{SigType}
use Rattle.type_terms.specs.declared.term.SigType.TheVariants as type
use Rattle.type_hierarchy.specs.Ancestors.{layer_name, name_in}
use Rattle.type_hierarchy.specs.Hierarchy.{Hierarchy, core_name}
use Rattle.type_hierarchy.specs.Names.{class_of}

pub class_named : (w : Hierarchy) (name : TypeName) → name_in w (type.Class name) ≡ Some name
unfolding name_in
class_named w name = ap (layer_name w) (type.outs-Class name)

pub value_named : (w : Hierarchy) (name : TypeName) → name_in w (type.Value name) ≡ Some name
unfolding name_in
value_named w name = ap (layer_name w) (type.outs-Value name)

pub instance_named : (w : Hierarchy) (v : Bool) (name : TypeName) (args : List SigType) → name_in w (type.Inst v name args) ≡ Some name
unfolding name_in
instance_named w v name args = ap (layer_name w) (type.outs-Inst v name args)

pub prim_named : (w : Hierarchy) (p : Primitive) → name_in w (type.Prim p) ≡ Some (core_name w (class_of p))
unfolding name_in
prim_named w p = ap (layer_name w) (type.outs-Prim p)
