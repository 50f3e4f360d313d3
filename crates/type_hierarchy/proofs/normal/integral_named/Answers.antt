use Rattle.std.proofs.Common.{◌∙◌}
use Rattle.type_hierarchy.specs.Gathered.{name_by}
use Rattle.type_hierarchy.specs.Names.{full_name}
use Rattle.type_hierarchy.specs.Normal.{primitive_of}
use Rattle.type_hierarchy.specs.Reading.{reading_by}
use Rattle.type_hierarchy.proofs.Normals.{integral_named}
use Rattle.type_hierarchy.proofs.normal.integral_named.Goals as goal

pub returns : goal.returns
returns c =
    let core = c.args.values.now.core in
    c.if_integral.ensures
    ∙ integral_named (reading_by c.args.values.now c.args.means.now) (name_by c.args.means.now c.args.name.now) c.primitive_of.result
    (c.primitive_of.ensures ∙ (λ i. primitive_of core (full_name (c.of-scope.ensures i) (c.as_slice.ensures.ids i))))
