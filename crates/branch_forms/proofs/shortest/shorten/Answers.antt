use Rattle.std.proofs.Common.{sym, subst, length, length-set}
use Rattle.std.proofs.Math.ListN.{set}
use Rattle.branch_forms.specs.declared.form.Form.TheVariants.{Long}
use Rattle.branch_forms.proofs.Choices.{IsBound, lengthened, stepped_back, is_shortest}
use Rattle.branch_forms.proofs.Measure.{shorts, one_less, falls}
use Rattle.branch_forms.proofs.shortest.shorten.Goals as goal
use Rattle.branch_forms.proofs.shortest.shorten.Goals.{in-Some, in_default}

pub loop-k-preserved : goal.loop-k-preserved
loop-k-preserved c =
    elim c.match-far_target.branch [
      | in-Some w ↦ subst (λ l. IsBound c.args.forms.now l) (sym w.forms-is) (lengthened _ _ _ _ c.loop-k.invariant w.in-Some.ensures)
      | in_default w ↦ subst (λ l. IsBound c.args.forms.now l) (sym w.forms-is) c.loop-k.invariant
    ]

pub loop-next-smaller-in-Some-far_target : goal.loop-next-smaller-in-Some-far_target
loop-next-smaller-in-Some-far_target c =
    let k = c.loop-next.next in
    let s = c.loop-next.forms in
    let after = set s k (Long c.in-Some-far_target.to) in
    rw (length-set s k (Long c.in-Some-far_target.to))
    (falls (shorts s) (shorts after) (length s) k c.saturating_sub-next.result
    (one_less s k c.in-Some-far_target.to c.in-Some-far_target.ensures.short) c.loop-next-test.true)

pub loop-next-preserved-in-Some-far_target : goal.loop-next-preserved-in-Some-far_target
loop-next-preserved-in-Some-far_target c = record {
  bound = lengthened _ _ _ _ c.loop-next.invariant.bound c.in-Some-far_target.ensures;
  settled = stepped_back c.args.forms.now c.loop-next.forms c.loop-next.next c.in-Some-far_target.to c.saturating_sub-next.result c.requires.bytes
      c.loop-next.invariant.bound c.loop-next-test.true c.loop-next.invariant.settled c.saturating_sub-next.ensures;
}

pub returns : goal.returns
returns c = is_shortest c.args.forms.now c.loop-next.forms c.loop-next.next c.requires.short c.loop-next.invariant.bound c.loop-next-test.false c.loop-next.invariant.settled
