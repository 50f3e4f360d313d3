use Rattle.std.proofs.Common.{sym, ◌∙◌}
use Rattle.std.proofs.lemmas.Bool.{false≢true}
use Rattle.image_used.specs.Spreading.{IsRow, IsMarkedRow}
use Rattle.image_used.proofs.Spreading.{on_ok, spreads_none, spreads_as}
use Rattle.image_used.proofs.Telling.{here_marked, marked_here}
use Rattle.image_used.proofs.spread.Spread.mark_where.Goals as goal

pub returns-then-is_marked-clause-marked : goal.returns-then-is_marked-clause-marked
returns-then-is_marked-clause-marked c =
    on_ok c.mark.result c.mark.ensures.marked
    (spreads_as c.args.self.now.marks c.mark.new.self.marks c.args.self.now.todo c.mark.new.self.todo (IsRow c.args.table c.args.row) (IsMarkedRow c.args.named.now c.args.table c.args.row)
    (λ t r h. here_marked c.args.named.now c.args.table c.args.row t r (c.is_marked.ensures.0 c.if-is_marked.true) h) (λ t r h. h.0))

pub returns-clause-marked : goal.returns-clause-marked
returns-clause-marked c =
    spreads_none c.args.self.now.marks c.args.self.now.todo (IsMarkedRow c.args.named.now c.args.table c.args.row)
    (λ t r h p. absurd (false≢true (sym c.if-is_marked.false ∙ c.is_marked.ensures.1 (marked_here c.args.named.now c.args.table c.args.row t r h))))
