use Rattle.std.proofs.Common.{arith}
use Rattle.stack_rows.proofs.Growing.{stays_on, stays_still}
use Rattle.body_verifier.proofs.RowLists.{no_rows, constraint_none, rows_more, constraint_more, rows_done}
use Rattle.body_verifier.proofs.rows.rows_of.Goals as goal

pub loop-ins-init : goal.loop-ins-init
loop-ins-init c = record {
  stays = stays_still c.args.w.now;
  within = tt;
  constrained = λ f types code. constraint_none c.args.w.now.nodes f;
  rows = λ f types code means. no_rows c.args.w.now.nodes f c.in_ok-rows.rows c.in_ok-rows.ensures;
}

pub loop-ins-preserved : goal.loop-ins-preserved
loop-ins-preserved c =
    let a = c.args.w.now in
    let b = c.loop-ins.w in
    let d = c.row_by_operation.new.w in
    let e = c.constraint_after.new.w in
    let ab = c.loop-ins.invariant.stays in
    let bd = c.in_ok-row.ensures.stays in
    let de = c.in_ok-constrained.ensures.stays in
    record {
      stays = stays_on a b e ab (stays_on b d e bd de);
      within = c.in_ok-constrained.ensures.within;
      constrained = λ f types code. constraint_more a b d e f c.args.code.now c.loop-ins.ins-index c.ins-item.result c.loop-ins.constrained c.in_ok-constrained.constrained c.operation_of-operation.result
          ab bd types code c.loop-ins-test.true c.ins-item.is c.operation_of-operation.ensures c.loop-ins.invariant.within (c.loop-ins.invariant.constrained f types code)
          (λ t. c.in_ok-constrained.ensures.ok f t);
      rows = λ f types code means. rows_more a b d e c.args.frame.now f c.args.code.now c.loop-ins.rows c.push.new.self c.loop-ins.ins-index c.ins-item.result c.loop-ins.constrained c.in_ok-row.row
          c.operation_of-operation.result ab bd de types code means c.loop-ins-test.true c.ins-item.is c.operation_of-operation.ensures (c.loop-ins.invariant.constrained f types code)
          (c.loop-ins.invariant.rows f types code means) (c.in_ok-row.ensures.ok f) c.in_ok-push.ensures.ok;
    }

pub returns-in_err-push-clause-stays : goal.returns-in_err-push-clause-stays
returns-in_err-push-clause-stays c = stays_on _ _ _ c.loop-ins.invariant.stays c.in_ok-row.ensures.stays

pub returns-in_err-constrained-clause-stays : goal.returns-in_err-constrained-clause-stays
returns-in_err-constrained-clause-stays c = stays_on _ _ _ c.loop-ins.invariant.stays (stays_on _ _ _ c.in_ok-row.ensures.stays c.in_err-constrained.ensures.stays)

pub returns-clause-ok : goal.returns-clause-ok
returns-clause-ok c = λ f types code means.
    let past = c.loop-ins-test.false in
    let end = c.loop-ins.auto.ins-index-end in
    rows_done c.loop-ins.w.nodes c.loop-ins.rows f c.args.code.now c.loop-ins.ins-index (c.loop-ins.invariant.rows f types code means) code (omega (arith, past, end))
