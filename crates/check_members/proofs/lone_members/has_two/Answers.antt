use Rattle.std.proofs.Common.{◌∷◌, ◌∙◌, ap, subst, sym}
use Rattle.check_names.proofs.ClassWalks.{forest_behind}
use Rattle.check_members.proofs.LoneLemmas.{LeftLone, lone_end, lone_in, lone_leaf, lone_past, lone_start}
use Rattle.check_members.proofs.lone_members.has_two.Goals as goal

pub loop-node-init : goal.loop-node-init
loop-node-init c = record { forest = c.requires; so_far = λ f e. lone_start c.args.level f c.args.nodes.now e }

pub split_at-requires : goal.split_at-requires
split_at-requires c =
    let f = c.loop-node.invariant.forest in
    (c.forests_open.ensures.branch f.0 c.in-Branch.production c.in-Branch.count c.in-Some.rest.now
    (f.1 ∙ c.in-Some.ensures ∙ ap (λ n. n ∷ c.in-Some.rest.now) c.in-Branch.is)).within

pub loop-node-preserved-then-has_place : goal.loop-node-preserved-then-has_place
loop-node-preserved-then-has_place c =
    let p = c.in-Branch.production in
    let count = c.in-Branch.count in
    let rest = c.in-Some.rest.now in
    let is = c.in-Some.ensures ∙ ap (λ n. n ∷ rest) c.in-Branch.is in
    let f = c.loop-node.invariant.forest in
    let b = c.forests_open.ensures.branch f.0 p count rest (f.1 ∙ is) in
    record {
      forest = (b.after, b.rest ∙ sym c.split_at.ensures.back);
      so_far = λ g e.
          subst (λ ns. LeftLone c.args.level g ns c.all_of-met.result) (sym c.split_at.ensures.back)
          (lone_past c.args.level g c.forests_open.ensures c.loop-node.left.now rest c.loop-node.met (c.loop-node.invariant.so_far g e) p count is
          c.declared_by-here.result c.all_of-met.result (sym c.has_place.ensures ∙ c.if-has_place.true)
          c.declared_by-here.ensures (c.have_common.ensures c.if-have_common.false) c.all_of-met.ensures);
    }

pub loop-node-preserved-else-has_place : goal.loop-node-preserved-else-has_place
loop-node-preserved-else-has_place c =
    let p = c.in-Branch.production in
    let rest = c.in-Some.rest.now in
    let is = c.in-Some.ensures ∙ ap (λ n. n ∷ rest) c.in-Branch.is in
    record {
      forest = forest_behind c.forests_open.ensures c.forests_join.ensures p c.in-Branch.count c.loop-node.left.now rest is c.loop-node.invariant.forest;
      so_far = λ g e.
          lone_in c.args.level g c.forests_open.ensures c.loop-node.left.now rest c.loop-node.met (c.loop-node.invariant.so_far g e) p c.in-Branch.count is
          c.forests_join.ensures (sym c.has_place.ensures ∙ c.if-has_place.false);
    }

pub loop-node-preserved : goal.loop-node-preserved
loop-node-preserved c =
    let rest = c.in-Some.rest.now in
    let is = c.in-Some.ensures ∙ ap (λ n. n ∷ rest) c.in-Leaf.is in
    let f = c.loop-node.invariant.forest in
    let b = c.forests_open.ensures.leaf f.0 c.in-Leaf.token rest (f.1 ∙ is) in
    record {
      forest = (b.after, b.rest);
      so_far = λ g e. lone_leaf c.args.level g c.forests_open.ensures c.loop-node.left.now rest c.loop-node.met (c.loop-node.invariant.so_far g e) c.in-Leaf.token is;
    }

pub returns : goal.returns
returns c f e quiet kind = lone_end c.args.level f c.loop-node.left.now c.loop-node.met c.in_default.ensures (c.loop-node.invariant.so_far f e) kind
