use Rattle.image_weights.proofs.method_rows.charge_method_row.Goals as goal

pub charge_generics-left-requires-clause-meets : goal.charge_generics-left-requires-clause-meets
charge_generics-left-requires-clause-meets g c = c.requires.stands.structure

pub charge_attributes-requires-clause-meets : goal.charge_attributes-requires-clause-meets
charge_attributes-requires-clause-meets g c = c.requires.stands.structure
