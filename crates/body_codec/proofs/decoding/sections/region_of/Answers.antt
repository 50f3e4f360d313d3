use Rattle.std.proofs.Common.{subst}
use Rattle.body_codec.specs.Reading.{pieces_of}
use Rattle.body_codec.specs.Faults.{HasKind}
use Rattle.body_codec.proofs.Places.{range_tells}
use Rattle.body_codec.proofs.decoding.sections.region_of.Goals as goal

pub returns-in_err-filter-clause-none : goal.returns-in_err-filter-clause-none
returns-in_err-filter-clause-none c =
    rw c.from_residual-in_err-filter.ensures (λ clause.
    let ps = pieces_of c.args.layout.now.code.now c.args.layout.now.marks.now in
    let row = c.args.row.now in
    let t = range_tells ps row.handler_offset row.handler_length clause.handler_start clause.handler_end c.in_ok-handler_start.handler_start c.in_ok-handler_start.handler_end
    clause.handler_range c.in_ok-handler_start.ensures.found in
    c.in_err-filter.ensures.none (subst (λ h. HasKind ps row h) t.0 clause.kind))
