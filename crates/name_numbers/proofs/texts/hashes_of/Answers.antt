use Rattle.std.proofs.Common.{◌≡◌, ℕ, ◌+◌, ◌-◌, ◌∙◌, inl, inr, arith, rules}
use Rattle.name_numbers.proofs.Fronts.{hash_at_end, hash_step, each_more}
use Rattle.name_numbers.proofs.texts.hashes_of.Goals.{then-heap-at-eq0, else-heap-at-eq0}
use Rattle.name_numbers.proofs.texts.hashes_of.Goals as goal

pub loop-at-init : goal.loop-at-init
loop-at-init c = record {
  within = omega arith;
  hash_is = hash_at_end c.args.heap.now;
  long = search rules;
  each = λ k from less. absurd (omega arith);
}

pub loop-at-preserved : goal.loop-at-preserved
loop-at-preserved c =
    let i = c.loop-at.invariant in
    let at : ℕ = c.loop-at.at - 1 in
    let behind : at + 1 ≡ c.loop-at.at = let t = c.loop-at-test.true in omega arith in
    let hash = hash_step c.args.heap.now at (c.loop-at.at) behind c.loop-at.hash c.if-heap-at-eq0.hash i.hash_is
    (elim c.if-heap-at-eq0.branch [
      | then-heap-at-eq0 w ↦ inl (w.if-heap-at-eq0.true, w.hash-is)
      | else-heap-at-eq0 w ↦ inr (w.if-heap-at-eq0.false, w.hash-is ∙ w.mix-hash.ensures)
    ]) in
    record {
      within = let w = i.within in omega arith;
      hash_is = hash;
      long = search rules;
      each = each_more c.args.heap.now at (c.loop-at.at) behind c.loop-at.hashes.items c.if-heap-at-eq0.hash i.long (let w = i.within in omega arith) hash i.each;
    }
