use Rattle.std.proofs.Common.{ap, arith}
use Rattle.std.specs.List.{sum_by}
use Rattle.assembly_tree.specs.Weight.{typedef_weight}
use Rattle.class_faces.proofs.Weights.{types_light}
use Rattle.class_faces.proofs.rows.classes.Goals as goal

pub add_classes-requires : goal.add_classes-requires
add_classes-requires c =
    let light = types_light c.args.a.now in
    let same = ap (sum_by typedef_weight) c.as_slice.ensures in
    let low = c.requires in
    omega (arith, light, same, low)
