use Rattle.std.proofs.Common.{◌<◌, ◌^◌, take, drop, refl, ap, subst, ◌∙◌}
use Rattle.source_nodes.proofs.Opening.{opens}
use Rattle.source_nodes.proofs.walk.open.Goals as goal

pub returns : goal.returns
returns c =
    opens c.forests_open.ensures c.forests_join.ensures c.args.nodes.now c.in_ok-node.node c.in_ok-node.behind.now _ c.in_ok-node.ensures refl refl
    (c.cut.ensures.front ∙ ap (λ n. take n c.in_ok-node.behind.now) c.count_below.ensures.count)
    (c.cut.ensures.back ∙ ap (λ n. drop n c.in_ok-node.behind.now) c.count_below.ensures.count)
    (subst (λ n. n < 2 ^ 32) c.count_below.ensures.count c.count_below.ensures.few)
