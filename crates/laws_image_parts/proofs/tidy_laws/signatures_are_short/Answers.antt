-- answers for src/laws.rt
use Rattle.laws_image_parts.proofs.MethodRuns.{methods_count}
use Rattle.laws_image_parts.proofs.tidy.ShortLemmas.{signatures_short}
use Rattle.laws_image_parts.proofs.tidy_laws.signatures_are_short.Goals as goal

pub returns : goal.returns
returns c = λ a classes r tables code image w.
    let rows = c.rows_are_read.ensures a classes r tables code image w.filled w.reads in
    signatures_short (record {
      types = c.written_is_read.ensures.type_of;
      fields = c.written_is_read.ensures.field;
      methods = c.written_is_read.ensures.method;
      properties = c.written_is_read.ensures.property;
      locals = c.written_is_read.ensures.locals;
      arguments = c.written_is_read.ensures.instantiation;
    }) a classes r tables code image w rows (c.runs_are_read.ensures a classes r code image rows) (methods_count c.indexes_fit.ensures a classes r code image rows.methods)
