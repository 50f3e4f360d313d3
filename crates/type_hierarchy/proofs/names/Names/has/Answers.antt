use Rattle.std.proofs.Common.{◌∙◌}
use Rattle.type_hierarchy.specs.Names.{full_name}
use Rattle.type_hierarchy.proofs.Among.{found_among}
use Rattle.type_hierarchy.proofs.names.Names.has.Goals as goal

pub returns : goal.returns
returns c =
    c.is_some.ensures
    ∙ found_among c.args.self.now (full_name c.args.scope c.args.path.now) c.find.result c.find.ensures.found c.find.ensures.none
