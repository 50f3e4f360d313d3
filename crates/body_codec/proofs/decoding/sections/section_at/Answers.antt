use Rattle.std.proofs.Common.{arith}
use Rattle.body_codec.proofs.Rows.{clauses_fit_by}
use Rattle.body_codec.proofs.decoding.sections.section_at.Goals as goal

pub overflow_add-count : goal.overflow_add-count
overflow_add-count c =
    let h = clauses_fit_by c.said_size-size.result c.clause_size.result c.clause_size-2.result _ c.said_size-size.ensures.small c.clause_size.ensures c.clause_size-2.ensures in
    omega arith
