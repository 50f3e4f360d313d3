use Rattle.std.proofs.Common.{sym, ◌∙◌}
use Rattle.image_model.specs.Rows.{Names}
use Rattle.image_used.specs.Spreading.{IsRow}
use Rattle.image_used.proofs.Spreading.{on_ok, spreads_none, spreads_as}
use Rattle.image_used.proofs.Telling.{coded_row, row_coded}
use Rattle.image_used.proofs.spread.Spread.mark_coded.Goals as goal

pub returns-in-None-clause-marked : goal.returns-in-None-clause-marked
returns-in-None-clause-marked c =
    spreads_none c.args.self.now.marks c.args.self.now.todo (Names c.args.kind c.args.value) (λ t r n p. absurd (let f = c.in-None.ensures.value ∙ n in cc))

pub returns-in-Some-clause-marked : goal.returns-in-Some-clause-marked
returns-in-Some-clause-marked c =
    on_ok c.mark.result c.mark.ensures.marked
    (spreads_as c.args.self.now.marks c.mark.new.self.marks c.args.self.now.todo c.mark.new.self.todo (IsRow c.in-Some.table c.in-Some.row) (Names c.args.kind c.args.value)
    (λ t r h. coded_row c.args.kind c.args.value c.in-Some.table c.in-Some.row t r (sym c.in-Some.ensures.value) h) (λ t r n. row_coded c.args.kind c.args.value c.in-Some.table c.in-Some.row t r (sym c.in-Some.ensures.value) n))
