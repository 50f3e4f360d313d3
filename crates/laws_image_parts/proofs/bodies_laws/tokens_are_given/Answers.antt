-- answers for src/laws.rt
use Rattle.laws_image_parts.proofs.bodies.BodyRows.{tokens_given}
use Rattle.laws_image_parts.proofs.MethodRuns.{methods_count}
use Rattle.laws_image_parts.proofs.bodies_laws.tokens_are_given.Goals as goal

pub returns : goal.returns
returns c = λ a classes r tables code entry id kind image f l.
    let rows = c.rows_are_read.ensures a classes r tables code image f (c.tables_are_read.ensures r tables id image l.metadata) in
    tokens_given a classes r code image l.code_is c.code_is_read.ensures (c.runs_are_read.ensures a classes r code image rows) (methods_count c.indexes_fit.ensures a classes r code image rows.methods) c.named_is_given.ensures
