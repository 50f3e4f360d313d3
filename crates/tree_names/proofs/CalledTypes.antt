-- A called type by its layer.
use Rattle.std.proofs.Common.{◌≡◌, map}
use Rattle.assembly_tree.specs.Nesting.{nested_in}
use Rattle.assembly_tree.specs.declared.typedef.TypeDef.{TypeDef}
use Rattle.assembly_tree.specs.declared.typedef.TypeDef.TheFolds.{fold_out-TypeDef}
use Rattle.assembly_tree.specs.declared.typedef.TypeDef.TheViews.{out-TypeDef, roll-TypeDef}
use Rattle.tree_names.specs.Called.{Call, called_own, called_typedef, typedef_step}

pub called_out : (f : Call) (t : TypeDef) →
    called_typedef f t ≡ roll-TypeDef (called_own f (record (out-TypeDef t) { nested = map (called_typedef f) (nested_in t) }))
unfolding called_typedef
called_out f t = fold_out-TypeDef TypeDef (typedef_step f) t
