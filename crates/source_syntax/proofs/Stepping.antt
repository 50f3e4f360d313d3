-- A way through the nodes of a forest, where for each of some indexes something is asked of the whole.
use Rattle.std.proofs.Common.{◌≡◌, ℕ, ◌≤◌, List, [], ◌∷◌, ◌++◌, length, take, drop, ap, sym, ◌∙◌}
use Rattle.std.proofs.lemmas.List.{take-append-drop}
use Rattle.ilasm_grammar.specs.declared.tree.TreeNode.{TreeNode}
use Rattle.ilasm_grammar.specs.declared.tree.TreeNode.TheVariants.{Branch, Leaf}
use Rattle.source_model.specs.Forest as tree
use Rattle.source_model.specs.Forest.{Forest, preorder, joined}
use Rattle.source_model.specs.Laws.{ForestOpens, ForestsJoin, OneForest}
use Rattle.source_nodes.specs.Walk.{IsForest}

-- what is left is a forest, and for each index what is asked of it now is what is asked of the whole
pub record Steps {I Y : Type 0} (now whole : I → Forest → Y) (nodes left : List TreeNode) : Type 0 where
  pub forest : Forest
  pub is : preorder forest ≡ left
  pub same : (i : I) (f : Forest) → preorder f ≡ nodes → now i forest ≡ whole i f

module _ {I Y : Type 0} (opens : ForestOpens) (now next whole : I → Forest → Y) (nodes : List TreeNode) where
  pub first_step : OneForest → IsForest nodes → Steps whole whole nodes nodes
  first_step one f = record { forest = f.0; is = f.1; same = λ i g e. ap (whole i) (one.one f.0 g (f.1 ∙ sym e)) }

  pub step_past_leaf : (token : ℕ) (left rest : List TreeNode) → ((i : I) (a : Forest) → next i a ≡ now i (tree.leaf token a))
      → left ≡ Leaf token ∷ rest → Steps now whole nodes left → Steps next whole nodes rest
  step_past_leaf token left rest steps e l =
      let b = opens.leaf l.forest token rest (l.is ∙ e) in
      record { forest = b.after; is = b.rest; same = λ i f h. steps i b.after ∙ ap (now i) (sym b.is) ∙ l.same i f h }

  pub step_past_branch : (p count : ℕ) (left rest : List TreeNode)
      → ((i : I) (b a : Forest) → preorder b ≡ take count rest → next i a ≡ now i (tree.branch p b a))
      → left ≡ Branch p count ∷ rest → Steps now whole nodes left → Steps next whole nodes (drop count rest)
  step_past_branch p count left rest steps e l =
      let b = opens.branch l.forest p count rest (l.is ∙ e) in
      record { forest = b.after; is = b.rest; same = λ i f h. steps i b.below b.after b.inner ∙ ap (now i) (sym b.is) ∙ l.same i f h }

  pub step_into_branch : ForestsJoin → (p count : ℕ) (left rest : List TreeNode)
      → ((i : I) (b a : Forest) → preorder b ≡ take count rest → next i (joined b a) ≡ now i (tree.branch p b a))
      → left ≡ Branch p count ∷ rest → Steps now whole nodes left → Steps next whole nodes rest
  step_into_branch joins p count left rest steps e l =
      let b = opens.branch l.forest p count rest (l.is ∙ e) in
      record {
        forest = joined b.below b.after;
        is = joins.nodes b.below b.after ∙ ap (λ ns. ns ++ preorder b.after) b.inner ∙ ap (λ ns. take count rest ++ ns) b.rest
            ∙ take-append-drop count rest;
        same = λ i f h. steps i b.below b.after b.inner ∙ ap (now i) (sym b.is) ∙ l.same i f h;
      }

  -- what stands below a branch is a forest
  pub below_is_forest : (p count : ℕ) (left rest : List TreeNode) → left ≡ Branch p count ∷ rest → Steps now whole nodes left
      → (f : Forest) × (preorder f ≡ take count rest)
  below_is_forest p count left rest e l = let b = opens.branch l.forest p count rest (l.is ∙ e) in (b.below, b.inner)

  pub below_fits : (p count : ℕ) (left rest : List TreeNode) → left ≡ Branch p count ∷ rest → Steps now whole nodes left → count ≤ length rest
  below_fits p count left rest e l = (opens.branch l.forest p count rest (l.is ∙ e)).within

  pub step_at_end : (left : List TreeNode) → left ≡ [] → Steps now whole nodes left → (i : I) (f : Forest) → preorder f ≡ nodes → now i tree.none ≡ whole i f
  step_at_end left e l i f h = ap (now i) (sym (opens.none l.forest (l.is ∙ e))) ∙ l.same i f h

  -- at a branch, which decides what is asked
  pub step_at_branch : (value : Y) (p count : ℕ) (left rest : List TreeNode)
      → ((i : I) (b a : Forest) → preorder b ≡ take count rest → value ≡ now i (tree.branch p b a))
      → left ≡ Branch p count ∷ rest → Steps now whole nodes left → (i : I) (f : Forest) → preorder f ≡ nodes → value ≡ whole i f
  step_at_branch value p count left rest decides e l i f h =
      let b = opens.branch l.forest p count rest (l.is ∙ e) in
      decides i b.below b.after b.inner ∙ ap (now i) (sym b.is) ∙ l.same i f h
