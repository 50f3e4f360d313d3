use Rattle.std.proofs.Common.{◌≡◌, ◌∙◌, ap, max, min}
use Rattle.std.proofs.lemmas.Result.{on_ok_weaker}
use Rattle.code_flow.proofs.RegionLemmas.{adds_blocks}
use Rattle.code_flow.proofs.clauses.add_clause.Goals as goal

pub returns : goal.returns
returns c =
    let tried = c.reach_of-tried.result in
    let handled = c.reach_of-handled.result in
    let before : c.higher-before.result ≡ max handled.first (min handled.end tried.first) = c.higher-before.ensures ∙ ap (max handled.first) c.lower.ensures in
    let behind : c.lower-behind.result ≡ min handled.end (max handled.first tried.end) = c.lower-behind.ensures ∙ ap (min handled.end) c.higher.ensures in
    on_ok_weaker c.add_to-3.result (λ last. adds_blocks c.args.clause.now tried.first tried.end handled.first handled.end c.handled_from.result c.handled_to.result
    c.reach_of-tried.ensures.first c.reach_of-tried.ensures.end c.handled_from.ensures c.handled_to.ensures c.reach_of-handled.ensures.first c.reach_of-handled.ensures.end
    c.args.place c.higher-count.result c.higher-before.result c.lower-behind.result c.args.regions.now.items c.grow_to.new.regions.items c.add_to.new.regions.items c.add_to-2.new.regions.items c.add_to-3.new.regions.items
    c.in_ok-grow_to.ensures c.in_ok-add_to.ensures.adds c.in_ok-add_to-2.ensures.adds last c.reach_of-tried.ensures.order c.reach_of-handled.ensures.order before behind) c.add_to-3.ensures.adds
