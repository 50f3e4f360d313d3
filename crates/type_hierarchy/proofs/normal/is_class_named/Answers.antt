use Rattle.std.proofs.Common.{◌∙◌}
use Rattle.type_hierarchy.specs.Declarations.{is_class_of}
use Rattle.type_hierarchy.specs.Gathered.{name_by, scope_by}
use Rattle.type_hierarchy.specs.Names.{full_name, system}
use Rattle.type_hierarchy.proofs.Normals.{class_named}
use Rattle.type_hierarchy.proofs.normal.is_class_named.Goals as goal

pub returns : goal.returns
returns c =
    c.is_class_of.ensures
    ∙ (λ i. is_class_of c.args.core (system c.args.name.now) (full_name (c.of.ensures i) (c.as_slice.ensures.ids i)))
    ∙ class_named c.args.core (scope_by c.args.means.now) (system c.args.name.now) (name_by c.args.means.now c.args.of.now) c.requires
