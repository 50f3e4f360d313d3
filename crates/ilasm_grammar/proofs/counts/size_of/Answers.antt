use Rattle.std.proofs.Common.{◌≡◌, ℕ, suc, ◌+◌, ◌-◌, ◌<◌, List, Some, None, drop, sym, ap, ◌∙◌, arith}
use Rattle.std.specs.Prelude.{slice_get}
use Rattle.std.specs.Option.{option_copied}
use Rattle.std.proofs.lemmas.List.{drop-drop}
use Rattle.ilasm_grammar.specs.declared.tree.TreeNode.{TreeNode}
use Rattle.ilasm_grammar.specs.declared.tree.TreeNode.TheVariants.{Branch, Leaf}
use Rattle.ilasm_grammar.specs.Counts.{hops}
use Rattle.ilasm_grammar.proofs.CountsLemmas.{hop_branch, hop_leaf, hop_none, hops-first}
use Rattle.ilasm_grammar.proofs.counts.size_of.Goals as goal
use Rattle.ilasm_grammar.proofs.counts.size_of.Goals.{in-Some-Branch, in-Some-Leaf, in-None}

over_branch : (nodes : List TreeNode) (end k trees end' total production below : ℕ) → k < trees → end + hops (trees - k) (drop end nodes) ≡ total →
    slice_get nodes end ≡ Some (Branch production below) → end' ≡ end + (1 + below) → end' + hops (trees - (k + 1)) (drop end' nodes) ≡ total
over_branch nodes end k trees end' total production below lt e is moved =
    let m = trees - (k + 1) in
    let one : trees - k ≡ suc m = omega arith in
    let there : suc end + below ≡ end' = omega arith in
    let h = ap (λ (x : ℕ). hops x (drop end nodes)) one ∙ hop_branch nodes end m production below is ∙
    ap (λ (x : List TreeNode). suc (below + hops m x)) (drop-drop below (suc end) nodes) ∙ ap (λ (x : ℕ). suc (below + hops m (drop x nodes))) there in
    omega (arith, h)

over_leaf : (nodes : List TreeNode) (end k trees end' total token : ℕ) → k < trees → end + hops (trees - k) (drop end nodes) ≡ total →
    slice_get nodes end ≡ Some (Leaf token) → end' ≡ end + 1 → end' + hops (trees - (k + 1)) (drop end' nodes) ≡ total
over_leaf nodes end k trees end' total token lt e is moved =
    let m = trees - (k + 1) in
    let one : trees - k ≡ suc m = omega arith in
    let there : suc end ≡ end' = omega arith in
    let h = ap (λ (x : ℕ). hops x (drop end nodes)) one ∙ hop_leaf nodes end m token is ∙ ap (λ (x : ℕ). suc (hops m (drop x nodes))) there in
    omega (arith, h)

over_none : (nodes : List TreeNode) (end k trees end' total : ℕ) → k < trees → end + hops (trees - k) (drop end nodes) ≡ total →
    slice_get nodes end ≡ None → end' ≡ end → end' + hops (trees - (k + 1)) (drop end' nodes) ≡ total
over_none nodes end k trees end' total lt e is moved =
    let m = trees - (k + 1) in
    let one : trees - k ≡ suc m = omega arith in
    let h = ap (λ (x : ℕ). hops x (drop end nodes)) one ∙ hop_none nodes end m is ∙ ap (λ (x : ℕ). hops m (drop x nodes)) (sym moved) in
    omega (arith, h)

started : (nodes : List TreeNode) (at first trees : ℕ) → 0 < trees → first ≡ hops 1 (drop at nodes) →
    at + first + hops (trees - 1) (drop (at + first) nodes) ≡ at + hops trees (drop at nodes)
started nodes at first trees pos is =
    let one : trees ≡ suc (trees - 1) = omega arith in
    let h = ap (λ (x : ℕ). hops x (drop at nodes)) one ∙ hops-first (trees - 1) (drop at nodes) ∙
    ap (λ (x : ℕ). x + hops (trees - 1) (drop x (drop at nodes))) (sym is) ∙
    ap (λ (x : List TreeNode). first + hops (trees - 1) x) (drop-drop first at nodes) in
    omega (arith, h)

pub loop-k-init : goal.loop-k-init
loop-k-init c = started c.args.nodes.now c.args.at c.args.first c.args.trees (omega arith) c.requires.first

pub loop-k-preserved : goal.loop-k-preserved
loop-k-preserved c =
    elim c.match-get.branch [
      | in-Some-Branch w ↦
          over_branch c.args.nodes.now c.loop-k.end c.loop-k._k c.args.trees c.match-get.end _ w.in-Some-Branch.field-0-0 w.in-Some-Branch.below
          c.loop-k-test.true c.loop-k.invariant
          (sym c.get.ensures ∙ ap (λ x. option_copied x) w.in-Some-Branch.is ∙ ap (λ (x : TreeNode). Some x) w.in-Some-Branch.field-0-is) w.end-is
      | in-Some-Leaf w ↦
          over_leaf c.args.nodes.now c.loop-k.end c.loop-k._k c.args.trees c.match-get.end _ w.in-Some-Leaf.field-0-0
          c.loop-k-test.true c.loop-k.invariant
          (sym c.get.ensures ∙ ap (λ x. option_copied x) w.in-Some-Leaf.is ∙ ap (λ (x : TreeNode). Some x) w.in-Some-Leaf.field-0-is) w.end-is
      | in-None w ↦
          over_none c.args.nodes.now c.loop-k.end c.loop-k._k c.args.trees c.match-get.end _ c.loop-k-test.true c.loop-k.invariant
          (sym c.get.ensures ∙ ap (λ x. option_copied x) w.in-None.is) w.end-is
    ]
