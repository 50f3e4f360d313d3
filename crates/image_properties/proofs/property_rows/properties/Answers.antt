use Rattle.image_properties.proofs.property_rows.properties.Goals as goal

pub read_all-requires-clause-there : goal.read_all-requires-clause-there
read_all-requires-clause-there c = λ k less.
    let h = c.requires.there k less in
    (c.requires.type_there, h.0, h.1, c.requires.ready)
