use Rattle.std.proofs.Common.{◌≡◌, ℕ, ◌+◌, ◌<◌, List, length, sym, ◌∙◌, ap, subst, refl, Some, arith}
use Rattle.std.specs.Prelude.{slice_get, replicate, false}
use Rattle.std.proofs.lemmas.Option.{slice_get_read, slice_get_within}
use Rattle.assembly_tree.specs.declared.body.Ins.{Ins}
use Rattle.code_flow.specs.declared.goings.Going.{Going}
use Rattle.code_flow.specs.declared.leaving.Leave.{Leave}
use Rattle.code_flow.specs.GoingTests.{guards_from, leaves_from, HasGoings}
use Rattle.code_flow.specs.Marks.{marked_bounds}
use Rattle.code_flow.proofs.Grown.{grown, longer}
use Rattle.code_flow.proofs.Guards.{bounds_are, bounds_as_many}
use Rattle.code_flow.proofs.goings.all_goings.Goals as goal

pub guards_at-requires-clause-bounds : goal.guards_at-requires-clause-bounds
guards_at-requires-clause-bounds c =
    bounds_are (length c.args.code.now) c.args.clauses.now c.as_slice-bounds.result.now (c.as_slice-bounds.ensures.value ∙ c.in_ok-bounds.ensures ∙ ap (marked_bounds (replicate (length c.args.code.now) false)) c.as_slice.ensures)

pub guards_at-requires-clause-k : goal.guards_at-requires-clause-k
guards_at-requires-clause-k c =
    let many = bounds_as_many (length c.args.code.now) c.args.clauses.now c.as_slice-bounds.result.now (c.as_slice-bounds.ensures.value ∙ c.in_ok-bounds.ensures ∙ ap (marked_bounds (replicate (length c.args.code.now) false)) c.as_slice.ensures) in
    omega (arith, many, c.loop-k-test.true)

pub loop-k-preserved : goal.loop-k-preserved
loop-k-preserved c =
    let code = c.args.code.now in
    let clauses = c.args.clauses.now in
    let k = c.loop-k.k in
    let at = slice_get_read code (length code) k c.index-code-k.result refl c.loop-k-test.true c.index-code-k.is in
    let leaves = c.in_ok-leaves.leaves in
    let has = subst (λ (l : List Leave). HasGoings (length code) clauses l k c.index-code-k.result c.in_ok-goings.goings) c.in_ok-leaves.ensures (c.in_ok-goings.ensures leaves c.in_ok-exits.ensures) in
    let more = subst (λ (l : List (List Going)). (length l ≡ k + 1) × ((j : ℕ) (i : Ins) (g : List Going) → j < k + 1 → slice_get code j ≡ Some i → slice_get l j ≡ Some g →
    HasGoings (length code) clauses (leaves_from 0 code) j i g)) (sym c.in_ok-push.ensures.ok) (
      longer c.loop-k.all c.in_ok-goings.goings k c.loop-k.invariant.0,
      grown (HasGoings (length code) clauses (leaves_from 0 code)) code c.loop-k.all k c.index-code-k.result c.in_ok-goings.goings c.loop-k.invariant.0 at has c.loop-k.invariant.1,
    ) in
    (more.0, more.1, λ j e. c.in_ok-guards.ensures ∙ ap (λ (z : ℕ). guards_from z 0 clauses) (omega arith))

pub returns : goal.returns
returns c = record {
  count = omega (arith, c.loop-k.invariant.0, c.loop-k-test.false, c.loop-k.auto.k-end);
  each = λ k i g a b.
      let less = slice_get_within c.args.code.now k i a in
      c.loop-k.invariant.1 k i g (omega (arith, less, c.loop-k-test.false)) a b;
}
