use Rattle.std.proofs.Common.{◌≡◌, ◌∙◌, ℕ, ◌+◌, ◌<◌, Bool, true, false, if◌then◌else◌, List, [], ◌∷◌, ◌++◌, ap, sym, subst, map, length, arith}
use Rattle.std.specs.Prelude.{◌↔◌, ◌&&◌, nat_lt}
use Rattle.std.specs.List.{Contains, AllPairs}
use Rattle.std.proofs.lemmas.Result.{on_ok_weaker}
use Rattle.assembly_tree.specs.declared.body.Ins.{Ins}
use Rattle.code_flow.specs.declared.goings.Carried.TheVariants as carries
use Rattle.code_flow.specs.Edges.{falls, branches, targets}
use Rattle.code_flow.specs.Operations.{operation}
use Rattle.code_flow.specs.GoingTests.{AreFlows, going, branched, fallen, flow_targets}
use Rattle.code_flow.proofs.flowing.add_flowing.Goals as goal

alone : (b : Bool) (n : ℕ) → AllPairs (λ (s t : ℕ). s ≡ t → ⊥) (if b then n ∷ [] else [])
alone true n = λ i j d a h e. omega arith
alone false n = λ i j d a h e. omega arith

next_flows : (count k : ℕ) (i : Ins) (b : Bool) → branches (operation i.op) ≡ false → b ≡ falls (operation i.op) → AreFlows count k i (fallen count k b)
next_flows count k i b e f =
    let is : flow_targets count k i ≡ fallen count k b = ap (λ z. branched z (targets i.operand) ++ fallen count k (falls (operation i.op))) e ∙ ap (fallen count k) (sym f) in
    record {
      same = λ t. subst (λ (l : List ℕ). Contains (fallen count k b) t ↔ Contains l t) (sym is) (λ x. x, λ x. x);
      once = alone (b && nat_lt (k + 1) count) (k + 1);
    }

pub returns-then-not-branches : goal.returns-then-not-branches
returns-then-not-branches c =
    let e : branches (operation c.args.ins.now.op) ≡ false = ap branches (sym c.operation_of-does.ensures) ∙ sym c.branches.ensures ∙ c.if-not-branches.true in
    let f : c.falls.result ≡ falls (operation c.args.ins.now.op) = c.falls.ensures ∙ ap falls c.operation_of-does.ensures in
    on_ok_weaker c.add_next.result (λ g. record { flows = fallen c.args.count c.args.k c.falls.result; are = next_flows c.args.count c.args.k c.args.ins.now c.falls.result e f; is = g }) c.add_next.ensures

pub returns : goal.returns
returns c = on_ok_weaker c.add_flows.result (λ e. record {
  flows = c.in_ok-flows.flows.items;
  are = c.in_ok-flows.ensures;
  is = e ∙ ap (λ l. c.args.goings.now ++ map (going carries.Flowing) l) c.as_slice.ensures.value;
}) c.add_flows.ensures
