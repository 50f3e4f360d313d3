-- answers for src/laws.rt
use Rattle.laws_image_parts.proofs.names.RunOwners.{fields_owned, methods_owned}
use Rattle.laws_image_parts.proofs.MethodRuns.{methods_count}
use Rattle.laws_image_parts.proofs.names_laws.members_are_owned.Goals as goal

pub returns : goal.returns
returns c = λ a classes r tables code image w.
    let rows = c.rows_are_read.ensures a classes r tables code image w.filled w.reads in
    record {
      fields = fields_owned c.indexes_fit.ensures a classes r image rows.types.types rows.fields.fields.count (methods_count c.indexes_fit.ensures a classes r code image rows.methods);
      methods = methods_owned c.indexes_fit.ensures a classes r image rows.types.types rows.fields.fields.count (methods_count c.indexes_fit.ensures a classes r code image rows.methods);
    }
