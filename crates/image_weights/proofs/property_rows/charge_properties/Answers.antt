use Rattle.image_weights.proofs.property_rows.charge_properties.Goals as goal

pub charge_rows-requires-clause-there : goal.charge_rows-requires-clause-there
charge_rows-requires-clause-there g c = λ k less. (c.requires.there k less, c.requires.meets)
