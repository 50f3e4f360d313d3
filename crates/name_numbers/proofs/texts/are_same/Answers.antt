use Rattle.std.proofs.Common.{◌≡◌, get_or, refl, sym, ◌∙◌}
use Rattle.name_numbers.proofs.Fronts.{rests_more, rests_end, rests_differ}
use Rattle.name_numbers.proofs.texts.are_same.Goals as goal

pub returns-then-byte_at-eq0 : goal.returns-then-byte_at-eq0
returns-then-byte_at-eq0 c =
    let same : get_or c.args.heap.now c.loop-one.one 0 ≡ get_or c.args.heap.now c.loop-one.other 0 = sym c.byte_at.ensures ∙ c.loop-one-test.true ∙ c.byte_at-in-loop-one.ensures in
    let zero : get_or c.args.heap.now c.loop-one.one 0 ≡ 0 = sym c.byte_at-in-loop-one-2.ensures ∙ c.if-byte_at-eq0.true in
    (λ yes. rests_end c.args.heap.now c.args.one c.args.other c.loop-one.one c.loop-one.other c.loop-one.invariant same zero, λ h. refl)

pub loop-one-preserved : goal.loop-one-preserved
loop-one-preserved c =
    let same : get_or c.args.heap.now c.loop-one.one 0 ≡ get_or c.args.heap.now c.loop-one.other 0 = sym c.byte_at.ensures ∙ c.loop-one-test.true ∙ c.byte_at-in-loop-one.ensures in
    rests_more c.args.heap.now c.args.one c.args.other c.loop-one.one c.loop-one.other c.loop-one.invariant same (λ z. c.if-byte_at-eq0.false (c.byte_at-in-loop-one-2.ensures ∙ z))

pub returns : goal.returns
returns c = (
  λ never. cc,
  λ h. absurd (rests_differ c.args.heap.now c.args.one c.args.other c.loop-one.one c.loop-one.other c.loop-one.invariant
      (λ e. c.loop-one-test.false (c.byte_at.ensures ∙ e ∙ sym c.byte_at-in-loop-one.ensures)) h),
)
