use Rattle.image_weights.proofs.Firsts.{first_type, first_assembly, first_module}
use Rattle.image_weights.proofs.light.charge_image.Goals as goal

pub charge_manifest-left-requires-clause-assembly : goal.charge_manifest-left-requires-clause-assembly
charge_manifest-left-requires-clause-assembly g c = first_assembly c.args.source.now.image.now c.requires.stands.structure

pub charge_manifest-left-requires-clause-module_row : goal.charge_manifest-left-requires-clause-module_row
charge_manifest-left-requires-clause-module_row g c = first_module c.args.source.now.image.now c.requires.stands.structure

pub charge_type_fields-left-requires-clause-there : goal.charge_type_fields-left-requires-clause-there
charge_type_fields-left-requires-clause-there g c = first_type c.args.source.now.image.now c.requires.stands.structure

pub charge_type_methods-left-requires-clause-there : goal.charge_type_methods-left-requires-clause-there
charge_type_methods-left-requires-clause-there g c = first_type c.args.source.now.image.now c.requires.stands.structure

pub charge_manifest-left-requires-clause-meets : goal.charge_manifest-left-requires-clause-meets
charge_manifest-left-requires-clause-meets g c = c.requires.stands.structure

pub charge_type_methods-left-requires-clause-overrides : goal.charge_type_methods-left-requires-clause-overrides
charge_type_methods-left-requires-clause-overrides g c = c.requires.maps.overrides_are
