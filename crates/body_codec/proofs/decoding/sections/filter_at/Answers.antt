use Rattle.std.proofs.Common.{arith, rules}
use Rattle.body_codec.specs.Reading.{pieces_of}
use Rattle.body_codec.proofs.Places.{count_is, filter_none}
use Rattle.body_codec.proofs.decoding.sections.filter_at.Goals as goal

pub returns-else-filter-handler-clause-none : goal.returns-else-filter-handler-clause-none
returns-else-filter-handler-clause-none c =
    let code = c.args.layout.now.code.now in
    let marks = c.args.layout.now.marks.now in
    let n = count_is code marks in
    let inside = c.requires.inside in
    let filter = c.in_ok-filter.ensures.inside in
    filter_none (pieces_of code marks) c.args.row.now c.args.handler c.in_ok-filter.filter (omega arith) (omega arith) c.if-row-eq1.true
    (search rules) c.if-filter-handler.false
