-- answers for src/laws.rt
use Rattle.laws_image_parts.proofs.namings.NamingsRead.{namings_read}
use Rattle.laws_image_parts.proofs.namings_laws.namings_are_read.Goals as goal

pub returns : goal.returns
returns c =
    namings_read c.owners_are_read.ensures c.locals_are_read.ensures c.texts_are_read.ensures c.fields_are_read.ensures c.methods_are_read.ensures
