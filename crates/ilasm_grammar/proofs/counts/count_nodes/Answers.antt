use Rattle.std.proofs.Common.{◌≡◌, ℕ, suc, ◌+◌, ◌-◌, ◌<◌, ◌≤◌, ◌^◌, length, List, [], ◌∷◌, ◌++◌, take, drop, sum, Some, refl, sym, ap, ◌∙◌, arith, append-nil}
use Rattle.std.proofs.Math.Seq.{take-length, drop-length}
use Rattle.std.proofs.lemmas.List.{length-drop}
use Rattle.std.proofs.lemmas.List.Sums.{sum_by-take-le}
use Rattle.ilasm_grammar.specs.declared.tree.TreeNode.{TreeNode}
use Rattle.ilasm_grammar.specs.Counts.{counted, sizes_of, hops}
use Rattle.ilasm_grammar.specs.Ilasm.{ilasm}
use Rattle.ilasm_grammar.proofs.CountsLemmas.{has_rule, sum-sizes_of, leaf_counted, branch_counted, hops_here}
use Rattle.ilasm_grammar.proofs.PlaceLemmas.{is_rule}
use Rattle.ilasm_grammar.proofs.counts.count_nodes.Goals as goal

at_end : (raw : List TreeNode) (n : ℕ) → n ≡ length raw → raw ≡ take n raw ++ counted ilasm (drop n raw)
unfolding counted
at_end raw n e =
    let d : drop n raw ≡ [] = ap (λ (k : ℕ). drop k raw) e ∙ drop-length raw in
    let t : take n raw ≡ raw = ap (λ (k : ℕ). take k raw) e ∙ take-length raw in
    sym (append-nil raw) ∙ ap (λ x. x ++ []) (sym t) ∙ ap (λ x. take n raw ++ counted ilasm x) (sym d)

fit : (raw nodes : List TreeNode) (k x m : ℕ) → length raw < 2 ^ 32 → k ≤ length raw → x ≡ k → nodes ≡ take k raw ++ counted ilasm (drop k raw) →
    x + hops m (drop x nodes) < 2 ^ 32
fit raw nodes k x m lt le same e =
    omega (arith, hops_here ilasm raw nodes k x m le same e, sum_by-take-le (λ x. x) (sizes_of ilasm (drop k raw)) m, sum-sizes_of ilasm (drop k raw), length-drop k raw)

-- a first tree with a leaf alone, or with a branch
first_is : (n : ℕ) (sizes others : List ℕ) → n ∷ others ≡ sizes → n ≡ sum (take 1 sizes)
first_is n sizes others e = let alone : n ≡ 0 + n = omega arith in alone ∙ ap (λ (x : List ℕ). sum (take 1 x)) e

nothing : (raw : List TreeNode) (n : ℕ) → n ≡ length raw → 0 ≡ sum (take 1 (sizes_of ilasm (drop n raw)))
unfolding sizes_of
nothing raw n e = ap (λ (x : List TreeNode). sum (take 1 (sizes_of ilasm x))) (sym (ap (λ (k : ℕ). drop k raw) e ∙ drop-length raw))

pub loop-k-init : goal.loop-k-init
loop-k-init c = record { nodes = at_end c.args.nodes.now c.len-k.result c.len-k.ensures; first = nothing c.args.nodes.now c.len-k.result c.len-k.ensures }

pub loop-k-preserved-in-Leaf : goal.loop-k-preserved-in-Leaf
loop-k-preserved-in-Leaf c =
    let raw = c.args.nodes.now in
    let j = c.loop-k.k - 1 in
    let k : c.loop-k.k ≡ suc j = omega arith in
    let n = c.loop-k.invariant.nodes ∙ ap (λ (x : ℕ). take x raw ++ counted ilasm (drop x raw)) k in
    let le : suc j ≤ length raw = omega arith in
    let h = leaf_counted ilasm raw c.loop-k.nodes (sizes_of ilasm (drop (suc j) raw)) j c.in-Leaf.token le n refl
    (c.at.ensures ∙ ap (λ (x : TreeNode). Some x) c.in-Leaf.is) in
    record { nodes = h.0; first = first_is 1 _ _ h.1 }

pub arity_of-requires : goal.arity_of-requires
arity_of-requires c =
    let raw = c.args.nodes.now in
    let j = c.loop-k.k - 1 in
    let k : c.loop-k.k ≡ suc j = omega arith in
    let n = c.loop-k.invariant.nodes ∙ ap (λ (x : ℕ). take x raw ++ counted ilasm (drop x raw)) k in
    is_rule c.in-Branch.production
    (has_rule ilasm raw c.loop-k.nodes j c.in-Branch.production c.in-Branch.nodes (omega arith) n (c.at.ensures ∙ ap (λ (x : TreeNode). Some x) c.in-Branch.is) c.requires.rules)

pub size_of-below-requires-clause-fits : goal.size_of-below-requires-clause-fits
size_of-below-requires-clause-fits c =
    fit c.args.nodes.now c.loop-k.nodes c.loop-k.k (c.loop-k.k - 1 + 1) c.arity_of.result c.requires.few (omega arith) (omega arith) c.loop-k.invariant.nodes

pub size_of-below-requires-clause-first : goal.size_of-below-requires-clause-first
size_of-below-requires-clause-first c =
    c.loop-k.invariant.first ∙
    sym (hops_here ilasm c.args.nodes.now c.loop-k.nodes c.loop-k.k (c.loop-k.k - 1 + 1) 1 (omega arith) (omega arith) c.loop-k.invariant.nodes)

below_is : (raw nodes : List TreeNode) (k x m below : ℕ) → length raw < 2 ^ 32 → 0 < k → k ≤ length raw → x ≡ k →
    nodes ≡ take k raw ++ counted ilasm (drop k raw) → below ≡ hops m (drop x nodes) → below + 1 < 2 ^ 32
below_is raw nodes k x m below lt pos le same e is =
    omega (arith, is, hops_here ilasm raw nodes k x m le same e, sum_by-take-le (λ x. x) (sizes_of ilasm (drop k raw)) m, sum-sizes_of ilasm (drop k raw), length-drop k raw)

pub overflow_add-first : goal.overflow_add-first
overflow_add-first c = record {
  fits = below_is c.args.nodes.now c.loop-k.nodes c.loop-k.k (c.loop-k.k - 1 + 1) c.arity_of.result c.size_of-below.result c.requires.few (omega arith) (omega arith)
      (omega arith) c.loop-k.invariant.nodes c.size_of-below.ensures;
}

pub loop-k-preserved : goal.loop-k-preserved
loop-k-preserved c =
    let raw = c.args.nodes.now in
    let j = c.loop-k.k - 1 in
    let k : c.loop-k.k ≡ suc j = omega arith in
    let n = c.loop-k.invariant.nodes ∙ ap (λ (x : ℕ). take x raw ++ counted ilasm (drop x raw)) k in
    let le : suc j ≤ length raw = omega arith in
    let b = c.size_of-below.ensures ∙ hops_here ilasm raw c.loop-k.nodes (suc j) (c.loop-k.k - 1 + 1) c.arity_of.result le (omega arith) n ∙
    ap (λ (m : ℕ). sum (take m (sizes_of ilasm (drop (suc j) raw)))) c.arity_of.ensures in
    let h = branch_counted ilasm raw c.loop-k.nodes (sizes_of ilasm (drop (suc j) raw)) j c.in-Branch.production c.in-Branch.nodes c.size_of-below.result
    le n refl (c.at.ensures ∙ ap (λ (x : TreeNode). Some x) c.in-Branch.is) b in
    let one : c.size_of-below.result + 1 ≡ suc c.size_of-below.result = omega arith in
    record { nodes = c.set.ensures ∙ h.0; first = one ∙ first_is (suc c.size_of-below.result) _ _ h.1 }
