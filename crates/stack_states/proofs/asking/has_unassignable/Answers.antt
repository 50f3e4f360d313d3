use Rattle.std.proofs.Common.{arith}
use Rattle.std.proofs.lemmas.List.{length-map}
use Rattle.std.proofs.lemmas.Option.{slice_get_within}
use Rattle.stack_states.specs.Asking.{IsUnassignableAt}
use Rattle.stack_rows.specs.RowMeanings.{demand_meant}
use Rattle.stack_states.proofs.Asks.{found, none_more}
use Rattle.stack_rows.proofs.Growing.{stays_on}
use Rattle.stack_states.proofs.asking.has_unassignable.Goals as goal

pub returns-then-fails-clause-ok : goal.returns-then-fails-clause-ok
returns-then-fails-clause-ok c =
    found IsUnassignableAt c.args.w.now c.loop-k.w c.args.row.now c.args.stack.now c.loop-k.k c.in_ok-fails.fails c.loop-k.invariant.stays c.requires.row c.requires.stack c.in_ok-fails.ensures.ok c.if-fails.true

pub loop-k-preserved : goal.loop-k-preserved
loop-k-preserved c = record {
  stays = stays_on c.args.w.now c.loop-k.w c.is_unassignable_at.new.w c.loop-k.invariant.stays c.in_ok-fails.ensures.stays;
  none = none_more IsUnassignableAt c.args.w.now c.loop-k.w c.args.row.now c.args.stack.now c.loop-k.k c.in_ok-fails.fails c.loop-k.invariant.stays c.requires.row c.requires.stack
      c.loop-k.invariant.none c.in_ok-fails.ensures.ok c.if-fails.false;
}

pub returns-clause-ok : goal.returns-clause-ok
returns-clause-ok c = (
  λ e. absurd (cc),
  λ x. absurd (c.loop-k.invariant.none x.0
      (let l = slice_get_within _ x.0 x.1.demand x.1.asked in let m = length-map c.args.row.now.operands (demand_meant c.args.w.now.nodes) in omega (arith, c.loop-k-test.false, c.len-k-end.ensures)) x.1),
)
