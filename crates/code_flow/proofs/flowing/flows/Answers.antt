use Rattle.std.proofs.Common.{ℕ, List, subst}
use Rattle.std.specs.Prelude.{◌↔◌}
use Rattle.std.specs.List.{Contains}
use Rattle.code_flow.proofs.flowing.flows.Goals as goal

pub returns : goal.returns
returns c = record {
  same = subst (λ (l : List ℕ). (t : ℕ) → Contains c.each_once.result.items t ↔ Contains l t) c.in_ok-all.ensures c.each_once.ensures.same;
  once = c.each_once.ensures.once;
}
