use Rattle.std.proofs.Common.{arith}
use Rattle.std.proofs.lemmas.List.{length-map}
use Rattle.std.proofs.lemmas.Option.{slice_get_within}
use Rattle.stack_states.specs.Asking.{IsWrongAt}
use Rattle.stack_rows.specs.RowMeanings.{demand_meant}
use Rattle.stack_states.proofs.Asks.{found, none_more}
use Rattle.stack_rows.proofs.Growing.{stays_on}
use Rattle.stack_states.proofs.asking.has_wrong_operand.Goals as goal

pub returns-then-wrong-clause-ok : goal.returns-then-wrong-clause-ok
returns-then-wrong-clause-ok c =
    found IsWrongAt c.args.w.now c.loop-k.w c.args.row.now c.args.stack.now c.loop-k.k c.in_ok-wrong.wrong c.loop-k.invariant.stays c.requires.row c.requires.stack c.in_ok-wrong.ensures.ok c.if-wrong.true

pub loop-k-preserved : goal.loop-k-preserved
loop-k-preserved c = record {
  stays = stays_on c.args.w.now c.loop-k.w c.is_wrong_at.new.w c.loop-k.invariant.stays c.in_ok-wrong.ensures.stays;
  none = none_more IsWrongAt c.args.w.now c.loop-k.w c.args.row.now c.args.stack.now c.loop-k.k c.in_ok-wrong.wrong c.loop-k.invariant.stays c.requires.row c.requires.stack
      c.loop-k.invariant.none c.in_ok-wrong.ensures.ok c.if-wrong.false;
}

pub returns-clause-ok : goal.returns-clause-ok
returns-clause-ok c = (
  λ e. absurd (cc),
  λ x. absurd (c.loop-k.invariant.none x.0
      (let l = slice_get_within _ x.0 x.1.demand x.1.asked in let m = length-map c.args.row.now.operands (demand_meant c.args.w.now.nodes) in omega (arith, c.loop-k-test.false, c.len-k-end.ensures)) x.1),
)
