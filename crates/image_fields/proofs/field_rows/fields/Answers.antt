use Rattle.image_fields.proofs.field_rows.fields.Goals as goal

pub read_all-requires-clause-there : goal.read_all-requires-clause-there
read_all-requires-clause-there c = λ k less. (c.requires.there k less, c.requires.ready)
