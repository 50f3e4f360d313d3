use Rattle.std.proofs.Common.{arith, refl, ◌∙◌, ◌+◌, ◌≡◌, subst, rules, ℕ}
use Rattle.image_model.specs.Rows.{count_of}
use Rattle.image_used.specs.Spreading.{MarkedIn, IsMarkedRow, Spreads}
use Rattle.image_used.proofs.Spreading.{spreads_none, spreads_both}
use Rattle.image_used.proofs.Telling.{marked_more, marked_back}
use Rattle.image_used.proofs.spread.Spread.mark_table.Goals as goal

pub loop-row-init : goal.loop-row-init
loop-row-init c = (
  spreads_none c.args.self.now.marks c.args.self.now.todo (MarkedIn c.args.named.now c.args.table 0) (λ t r n p. absurd (let l = n.1 in let k = n.2 in omega arith)),
  refl,
)

pub loop-row-preserved : goal.loop-row-preserved
loop-row-preserved c = (
  spreads_both c.args.self.now.marks c.loop-row.self.marks c.mark_where.new.self.marks c.args.self.now.todo c.loop-row.self.todo c.mark_where.new.self.todo (MarkedIn c.args.named.now c.args.table c.loop-row.row)
      (IsMarkedRow c.args.named.now c.args.table (c.loop-row.row + 1)) (MarkedIn c.args.named.now c.args.table (c.loop-row.row + 1)) (marked_more c.args.named.now c.args.table c.loop-row.row) (marked_back c.args.named.now c.args.table c.loop-row.row)
      c.loop-row.invariant.0 c.in_ok-mark_where.ensures.marked,
  c.mark_where.ensures.seen ∙ c.loop-row.invariant.1,
)

pub returns-clause-marked : goal.returns-clause-marked
returns-clause-marked c =
    let all : c.loop-row.row ≡ count_of c.args.image.now c.args.table = search rules in
    subst (λ (n : ℕ). Spreads c.args.self.now.marks c.args.self.now.todo c.loop-row.self.marks c.loop-row.self.todo (MarkedIn c.args.named.now c.args.table n)) all c.loop-row.invariant.0
