use Rattle.std.proofs.Common.{◌≡◌, ℕ, ◌+◌, ◌<◌, List, length, sym, subst, Some, arith}
use Rattle.std.specs.Prelude.{slice_get}
use Rattle.std.proofs.lemmas.Option.{slice_get_within}
use Rattle.assembly_tree.specs.declared.body.Ins.{Ins}
use Rattle.code_flow.specs.Marks.{IsPast}
use Rattle.code_flow.proofs.Grown.{grown, longer}
use Rattle.code_flow.proofs.PairLemmas.{item_at}
use Rattle.code_flow.proofs.prefixes.pasts_of.Goals as goal

pub loop-k-preserved : goal.loop-k-preserved
loop-k-preserved c =
    let code = c.args.code.now in
    let k = c.loop-k.k in
    let x = item_at code k c.loop-k-test.true in
    let past = c.past_from-place.ensures in
    record {
      count = subst (λ (l : List ℕ). length l ≡ k + 1) (sym c.in_ok-push.ensures.ok) (longer c.loop-k.places c.past_from-place.result k c.loop-k.invariant.count);
      each = subst (λ (l : List ℕ). (m : ℕ) (i : Ins) (j : ℕ) → m < k + 1 → slice_get code m ≡ Some i → slice_get l m ≡ Some j → IsPast code m j) (sym c.in_ok-push.ensures.ok)
          (grown (λ (m : ℕ) (i : Ins) (j : ℕ). IsPast code m j) code c.loop-k.places k x.0 c.past_from-place.result c.loop-k.invariant.count x.1 past c.loop-k.invariant.each);
      known = λ j e. let same : k ≡ j = omega arith in subst (λ (n : ℕ). IsPast code n c.past_from-place.result) same past;
      first = λ e. absurd (omega (arith, e));
    }

pub returns : goal.returns
returns c = record {
  count = omega (arith, c.loop-k.invariant.count, c.loop-k-test.false, c.loop-k.auto.k-end);
  each = λ k i j a b.
      let less = slice_get_within c.args.code.now k i a in
      c.loop-k.invariant.each k i j (omega (arith, less, c.loop-k-test.false)) a b;
}
