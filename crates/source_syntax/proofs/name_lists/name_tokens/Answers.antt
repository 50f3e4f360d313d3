use Rattle.std.proofs.Common.{◌≡◌, ◌∙◌, ap, refl, sym, subst, take, drop}
use Rattle.source_nodes.proofs.Collecting.{after_is, behind_is, below_is, is_branch}
use Rattle.source_syntax.proofs.NamingLemmas.{Names, names_end, names_go_in, names_start, names_take}
use Rattle.source_nodes.proofs.Opening.{in_two, opens_in_two, whole, opens_whole}
use Rattle.source_nodes.specs.Walk.{is_of}
use Rattle.source_syntax.proofs.name_lists.name_tokens.Goals as goal

pub loop-node-init : goal.loop-node-init
loop-node-init c = record {
  forest = c.requires;
  so_far = λ f e. subst (Names c.args.naming f c.args.nodes.now) (sym c.new-found.ensures) (names_start c.args.naming f c.args.nodes.now e);
}

pub push_name-requires : goal.push_name-requires
push_name-requires c =
    let b = is_branch c.production-production.result c.in-Some.node (sym c.is_of.ensures ∙ c.if-is_of.true) in
    let o = opens_in_two c.forests_open.ensures c.forests_join.ensures c.loop-node.left.now c.in-Some.node c.count_below-count.result c.cut.result.0 c.cut.result.1
    c.in-Some.rest c.in-Some.ensures c.count_below-count.ensures.count c.count_below-count.ensures.few c.cut.ensures.front c.cut.ensures.back in
    below_is c.loop-node.left.now (in_two c.in-Some.node c.cut.result.0 c.cut.result.1 c.in-Some.rest) c.production-production.result b.0 o b.1 c.loop-node.invariant.forest

pub loop-node-preserved-then-is_of : goal.loop-node-preserved-then-is_of
loop-node-preserved-then-is_of c =
    let p = c.production-production.result in
    let b = is_branch p c.in-Some.node (sym c.is_of.ensures ∙ c.if-is_of.true) in
    let x = in_two c.in-Some.node c.cut.result.0 c.cut.result.1 c.in-Some.rest in
    let o = opens_in_two c.forests_open.ensures c.forests_join.ensures c.loop-node.left.now c.in-Some.node c.count_below-count.result c.cut.result.0 c.cut.result.1
    c.in-Some.rest c.in-Some.ensures c.count_below-count.ensures.count c.count_below-count.ensures.few c.cut.ensures.front c.cut.ensures.back in
    record {
      forest = after_is c.loop-node.left.now x p b.0 o b.1 c.loop-node.invariant.forest;
      so_far = λ f e.
          names_take c.args.naming f c.loop-node.left.now x c.loop-node.found c.push_name.new.found p b.0 o b.1
          c.production-production.ensures (λ g h. c.in_ok-push_name.ensures g h) (c.loop-node.invariant.so_far f e);
    }

pub loop-node-preserved : goal.loop-node-preserved
loop-node-preserved c =
    let other = ap (λ q. is_of q c.in-Some.node) (sym c.production-production.ensures) ∙ sym c.is_of.ensures ∙ c.if-is_of.false in
    let x = whole c.in-Some.node c.in-Some.rest in
    let o = opens_whole c.forests_open.ensures c.forests_join.ensures c.loop-node.left.now c.in-Some.node c.count_below-count.result c.in-Some.rest c.in-Some.ensures
    c.count_below-count.ensures.count c.count_below-count.ensures.few in
    record {
      forest = behind_is c.loop-node.left.now x o c.loop-node.invariant.forest;
      so_far = λ f e.
          names_go_in c.args.naming c.forests_join.ensures f c.loop-node.left.now x c.loop-node.found o other (c.loop-node.invariant.so_far f e);
    }

pub returns : goal.returns
returns c f e = names_end c.args.naming f c.loop-node.left.now c.loop-node.found c.in_default.ensures (c.loop-node.invariant.so_far f e)
