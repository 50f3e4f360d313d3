use Rattle.std.proofs.Common.{◌≡◌, ℕ, ◌+◌, ◌-◌, ◌∙◌, inl, inr, arith, rules}
use Rattle.text_lengths.proofs.Fronts.{at_end, step, each_more}
use Rattle.text_lengths.proofs.lengths.lengths_of.Goals.{then-heap-at-eq0, else-heap-at-eq0}
use Rattle.text_lengths.proofs.lengths.lengths_of.Goals as goal

pub loop-at-init : goal.loop-at-init
loop-at-init c = record {
  within = omega arith;
  now_is = at_end c.args.heap.now;
  long = search rules;
  each = λ k from less. absurd (omega arith);
}

pub loop-at-preserved : goal.loop-at-preserved
loop-at-preserved c =
    let i = c.loop-at.invariant in
    let at : ℕ = c.loop-at.at - 1 in
    let behind : at + 1 ≡ c.loop-at.at = let t = c.loop-at-test.true in omega arith in
    let now = step c.args.heap.now at (c.loop-at.at) behind c.loop-at.many c.if-heap-at-eq0.many i.now_is
    (elim c.if-heap-at-eq0.branch [
      | then-heap-at-eq0 w ↦ inl (w.if-heap-at-eq0.true, w.many-is)
      | else-heap-at-eq0 w ↦ inr (w.if-heap-at-eq0.false, w.many-is ∙ w.saturating_add-many.ensures)
    ]) in
    record {
      within = let w = i.within in omega arith;
      now_is = now;
      long = search rules;
      each = each_more c.args.heap.now at (c.loop-at.at) behind c.loop-at.lengths.items c.if-heap-at-eq0.many i.long (let w = i.within in omega arith) now i.each;
    }
