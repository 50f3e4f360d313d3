use Rattle.image_weights.proofs.field_rows.charge_fields.Goals as goal

pub charge_rows-requires-clause-there : goal.charge_rows-requires-clause-there
charge_rows-requires-clause-there g c = λ k less. (c.requires.there k less, c.requires.meets)
