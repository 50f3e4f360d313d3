use Rattle.std.proofs.Common.{arith, ◌≡◌, sym, subst, ℕ, ◌+◌, ◌<◌, length, slice_get, Some, List}
use Rattle.std.proofs.lemmas.Option.{slice_get_within}
use Rattle.code_flow.specs.declared.blocks.Spans.{Spans}
use Rattle.code_flow.specs.GoingTests.{AreExits}
use Rattle.code_flow.proofs.Grown.{grown, longer}
use Rattle.code_flow.proofs.leaving.exits_of.Goals as goal

pub loop-place-preserved : goal.loop-place-preserved
loop-place-preserved c =
    let clauses = c.args.clauses.now in
    let leaves = c.args.leaves.now in
    let k = c.loop-place.place in
    let s = c.placed-clause.result.spans in
    let old = c.loop-place.exits in
    let ts = c.in_ok-targets.targets in
    let v = c.loop-place.invariant in
    let P = λ (place : ℕ) (t : Spans) (e : List ℕ). AreExits clauses leaves place t e in
    let has = subst (λ (place : ℕ). AreExits clauses leaves place s ts) c.placed-clause.ensures.place c.in_ok-targets.ensures in
    subst (λ (l : List (List ℕ)). (length l ≡ k + 1) × ((place : ℕ) (t : Spans) (e : List ℕ) → place < k + 1 → slice_get clauses place ≡ Some t → slice_get l place ≡ Some e → AreExits clauses leaves place t e)) (sym c.in_ok-push.ensures.ok)
    (longer old ts k v.0, grown P clauses old k s ts v.0 c.placed-clause.ensures.spans has v.1)

pub returns : goal.returns
returns c =
    let n = c.len-count.ensures in
    let v = c.loop-place.invariant in
    let len = v.0 in
    record {
      count = omega (arith, c.loop-place-test.false, c.loop-place.auto.place-end);
      each = λ place s e f g. let low = slice_get_within c.args.clauses.now place s f in v.1 place s e (omega (arith, c.loop-place-test.false)) f g;
    }
