use Rattle.std.proofs.Common.{arith, refl, ◌∙◌}
use Rattle.std.proofs.lemmas.List.{length-set}
use Rattle.code_flow.proofs.RegionLemmas.{low_more}
use Rattle.code_flow.proofs.clauses.lowest_of.Goals as goal

pub loop-k-preserved : goal.loop-k-preserved
loop-k-preserved c =
    let v = c.loop-k.invariant in
    let low = v.low in
    record {
      from = low_more c.args.clauses.now c.loop-k.lowest.items _ c.loop-k.least c.first-first.result c.lesser-least.result c.loop-k.k c.at.result.now v.from c.loop-k-test.true c.at.ensures c.first-first.ensures c.lesser-least.ensures.first
          c.lesser-least.ensures.second refl;
      count = length-set c.loop-k.lowest.items _ _ ∙ v.count;
      low = omega arith;
    }

pub returns : goal.returns
returns c = λ k n j s e l f. c.loop-k.invariant.from.set k n j s (omega (arith, c.loop-k-test.false)) e l f
