use Rattle.std.proofs.Common.{◌∙◌, ◌∷◌, [], ap, refl, sym, subst}
use Rattle.ilasm_grammar.specs.declared.tree.TreeNode.TheVariants.{Branch}
use Rattle.source_nodes.specs.Walk.{IsForest}
use Rattle.check_members.specs.MemberKinds.{signature_parts}
use Rattle.check_members.proofs.KeepLemmas.{Left, at_end, back_is_forest, broken_first, cut_back, cut_fits, cut_front, front_is_forest, past_kept, past_leaf, past_other, rest_is_forest}
use Rattle.check_members.proofs.unbroken.keeps.Goals as goal

pub loop-node-init : goal.loop-node-init
loop-node-init g c = record {
  forest = c.requires;
  so_far = λ s a f r p h e bodies. record { rest = f; is = e; bodies = bodies; same = refl };
}

pub split_at-requires : goal.split_at-requires
split_at-requires g c =
    cut_fits c.forests_open.ensures c.in-Branch.production c.in-Branch.count c.loop-node.left.now c.in-Some.rest.now
    (c.in-Some.ensures ∙ ap (λ n. n ∷ c.in-Some.rest.now) c.in-Branch.is) c.loop-node.invariant.forest

pub breaks-requires : goal.breaks-requires
breaks-requires g c =
    let is = c.in-Some.ensures ∙ ap (λ n. n ∷ c.in-Some.rest.now) c.in-Branch.is in
    subst IsForest (sym (c.split_at.ensures.front ∙ cut_front (Branch c.in-Branch.production c.in-Branch.count) c.in-Some.rest.now c.loop-node.left.now c.in-Branch.count is))
    (front_is_forest c.forests_open.ensures c.in-Branch.production c.in-Branch.count c.loop-node.left.now c.in-Some.rest.now is c.loop-node.invariant.forest)

pub returns-then-branch : goal.returns-then-branch
returns-then-branch g c s a f r p h e b =
    let is = c.in-Some.ensures ∙ ap (λ n. n ∷ c.in-Some.rest.now) c.in-Branch.is in
    let front = c.split_at.ensures.front ∙ cut_front (Branch c.in-Branch.production c.in-Branch.count) c.in-Some.rest.now c.loop-node.left.now c.in-Branch.count is in
    broken_first (g.R.Rule.broken c.args.rule.now) s a (signature_parts c.args.kind) c.forests_open.ensures f c.loop-node.left.now c.in-Some.rest.now
    c.in-Branch.production c.in-Branch.count is (c.loop-node.invariant.so_far s a f r p h e b) c.in_ok-breaks-in-Branch.field-0
    (sym c.is_in_signature.ensures ∙ c.if-is_in_signature.true)
    (λ t i bodies. c.in_ok-breaks-in-Branch.ensures s a t r p h (i ∙ sym front) bodies) c.if-branch.true

pub loop-node-preserved-then-is_in_signature : goal.loop-node-preserved-then-is_in_signature
loop-node-preserved-then-is_in_signature g c =
    let is = c.in-Some.ensures ∙ ap (λ n. n ∷ c.in-Some.rest.now) c.in-Branch.is in
    let node = Branch c.in-Branch.production c.in-Branch.count in
    let front = c.split_at.ensures.front ∙ cut_front node c.in-Some.rest.now c.loop-node.left.now c.in-Branch.count is in
    let back = c.split_at.ensures.back ∙ cut_back node c.in-Some.rest.now c.loop-node.left.now c.in-Branch.count is in
    record {
      forest = subst IsForest (sym back) (back_is_forest c.forests_open.ensures c.in-Branch.production c.in-Branch.count c.loop-node.left.now c.in-Some.rest.now is c.loop-node.invariant.forest);
      so_far = λ s a f r p h e b.
          subst (Left (g.R.Rule.broken c.args.rule.now) s a (signature_parts c.args.kind) f) (sym back)
          (past_kept (g.R.Rule.broken c.args.rule.now) s a (signature_parts c.args.kind) c.forests_open.ensures f c.loop-node.left.now c.in-Some.rest.now
          c.in-Branch.production c.in-Branch.count is (c.loop-node.invariant.so_far s a f r p h e b) c.in_ok-breaks-in-Branch.field-0
          (sym c.is_in_signature.ensures ∙ c.if-is_in_signature.true)
          (λ t i bodies. c.in_ok-breaks-in-Branch.ensures s a t r p h (i ∙ sym front) bodies) c.if-branch.false);
    }

pub loop-node-preserved-else-is_in_signature : goal.loop-node-preserved-else-is_in_signature
loop-node-preserved-else-is_in_signature g c =
    let is = c.in-Some.ensures ∙ ap (λ n. n ∷ c.in-Some.rest.now) c.in-Branch.is in
    let node = Branch c.in-Branch.production c.in-Branch.count in
    let back = c.split_at.ensures.back ∙ cut_back node c.in-Some.rest.now c.loop-node.left.now c.in-Branch.count is in
    record {
      forest = subst IsForest (sym back) (back_is_forest c.forests_open.ensures c.in-Branch.production c.in-Branch.count c.loop-node.left.now c.in-Some.rest.now is c.loop-node.invariant.forest);
      so_far = λ s a f r p h e b.
          subst (Left (g.R.Rule.broken c.args.rule.now) s a (signature_parts c.args.kind) f) (sym back)
          (past_other (g.R.Rule.broken c.args.rule.now) s a (signature_parts c.args.kind) c.forests_open.ensures f c.loop-node.left.now c.in-Some.rest.now
          c.in-Branch.production c.in-Branch.count is (c.loop-node.invariant.so_far s a f r p h e b) (sym c.is_in_signature.ensures ∙ c.if-is_in_signature.false));
    }

pub loop-node-preserved : goal.loop-node-preserved
loop-node-preserved g c =
    let is = c.in-Some.ensures ∙ ap (λ n. n ∷ c.in-Some.rest.now) c.in-Leaf.is in
    record {
      forest = rest_is_forest c.forests_open.ensures c.in-Leaf.token c.loop-node.left.now c.in-Some.rest.now is c.loop-node.invariant.forest;
      so_far = λ s a f r p h e b.
          past_leaf (g.R.Rule.broken c.args.rule.now) s a (signature_parts c.args.kind) c.forests_open.ensures f c.loop-node.left.now c.in-Some.rest.now
          c.in-Leaf.token is (c.loop-node.invariant.so_far s a f r p h e b);
    }

pub returns : goal.returns
returns g c s a f r p h e b =
    at_end (g.R.Rule.broken c.args.rule.now) s a (signature_parts c.args.kind) c.forests_open.ensures f c.loop-node.left.now [] c.in_default.ensures
    (c.loop-node.invariant.so_far s a f r p h e b)
