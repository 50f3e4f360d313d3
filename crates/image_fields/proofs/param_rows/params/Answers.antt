use Rattle.image_fields.proofs.param_rows.params.Goals as goal

pub read_all-requires-clause-there : goal.read_all-requires-clause-there
read_all-requires-clause-there c = λ k less. (c.requires.there k less, c.requires.ready)
