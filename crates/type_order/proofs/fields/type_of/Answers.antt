use Rattle.std.proofs.Common.{◌∙◌, ap, List}
use Rattle.assembly_tree.specs.DataSize.{type_at}
use Rattle.assembly_tree.specs.declared.typedef.TypeDef.{TypeDef}
use Rattle.type_order.proofs.fields.type_of.Goals as goal

pub returns : goal.returns
returns c =
    c.type_below.ensures c.args.a.now c.requires c.as_slice.ensures
    ∙ ap (λ (ts : List TypeDef). type_at ts c.args.path.now) c.as_slice.ensures
