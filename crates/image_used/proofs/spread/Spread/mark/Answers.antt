use Rattle.std.proofs.Common.{sym, subst, List}
use Rattle.image_used.specs.Spreading.{IsRow, Spreads}
use Rattle.image_used.specs.declared.spread.RowAt.{RowAt}
use Rattle.image_used.proofs.Spreading.{on_ok, stale, found}
use Rattle.image_used.proofs.spread.Spread.mark.Goals as goal

pub returns-then-mark-clause-marked : goal.returns-then-mark-clause-marked
returns-then-mark-clause-marked c =
    on_ok c.push.result c.push.ensures.ok (λ e. subst (λ (z : List RowAt). Spreads c.args.self.now.marks c.args.self.now.todo c.mark.new.self z (IsRow c.args.table c.args.row)) (sym e)
    (found c.args.self.now.marks c.mark.new.self c.args.self.now.todo c.args.table c.args.row c.mark.result c.mark.ensures.room c.mark.ensures.marked c.mark.ensures.fresh c.mark.ensures.left c.if-mark.true))

pub returns-clause-marked : goal.returns-clause-marked
returns-clause-marked c =
    stale c.args.self.now.marks c.mark.new.self c.args.self.now.todo c.args.table c.args.row c.mark.result c.mark.ensures.room c.mark.ensures.marked c.mark.ensures.fresh c.mark.ensures.left c.if-mark.false
