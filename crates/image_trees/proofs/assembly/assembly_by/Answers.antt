use Rattle.image_trees.proofs.Finding.{module_type_there}
use Rattle.image_trees.proofs.assembly.assembly_by.Goals as goal

pub type_fields-requires-clause-there : goal.type_fields-requires-clause-there
type_fields-requires-clause-there c = module_type_there c.args.source.now.image.now c.requires.ready.structure

pub type_methods-requires-clause-there : goal.type_methods-requires-clause-there
type_methods-requires-clause-there c = module_type_there c.args.source.now.image.now c.requires.ready.structure
