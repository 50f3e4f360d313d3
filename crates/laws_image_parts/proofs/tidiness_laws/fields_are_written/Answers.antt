-- answers for src/laws.rt
use Rattle.laws_image_parts.proofs.tidiness.FieldLemmas.{fields_written}
use Rattle.laws_image_parts.proofs.tidiness_laws.fields_are_written.Goals as goal

pub returns : goal.returns
returns c = fields_written c.tables_are_read.ensures
