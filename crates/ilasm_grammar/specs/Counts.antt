-- The counts of a derivation's branches, from its nodes in preorder: from the last node to the first.
use Rattle.std.specs.Prelude.{◌≡◌, ℕ, zero, suc, ◌+◌, List, [], ◌∷◌, length, take, drop, sum, slice_get, Option, Some, None}
use Rattle.ilasm_grammar.specs.declared.tree.TreeNode.{TreeNode}
use Rattle.ilasm_grammar.specs.declared.tree.TreeNode.TheVariants.{Branch, Leaf}
use Rattle.ilasm_grammar.specs.Grammar.{Rule, Grammar}

-- the number of symbols in a production's body
abbrev pub arity_of : Option Rule → ℕ
arity_of None = 0
arity_of (Some rule) = length rule.body

-- each branch has the number of a production
abbrev pub HaveRules : Grammar → List TreeNode → Type 0
HaveRules g nodes = (k production count : ℕ) → slice_get nodes k ≡ Some (Branch production count) → g production ≡ None → ⊥

-- the numbers of nodes of the trees that stand in this list one after another, a branch taking as many as its production's body has symbols
unfoldable pub sizes_of : Grammar → List TreeNode → List ℕ
sizes_of g [] = []
sizes_of g (Leaf token ∷ nodes) = 1 ∷ sizes_of g nodes
sizes_of g (Branch production count ∷ nodes) =
    suc (sum (take (arity_of (g production)) (sizes_of g nodes))) ∷ drop (arity_of (g production)) (sizes_of g nodes)

-- the nodes, with the number of nodes below it in each branch
unfoldable pub counted : Grammar → List TreeNode → List TreeNode
counted g [] = []
counted g (Leaf token ∷ nodes) = Leaf token ∷ counted g nodes
counted g (Branch production count ∷ nodes) =
    Branch production (sum (take (arity_of (g production)) (sizes_of g nodes))) ∷ counted g nodes

-- the number of nodes in so many trees that stand one after another, or in all where they are fewer, if their branches are counted
abbrev pub hops : ℕ → List TreeNode → ℕ
hops zero nodes = 0
hops (suc trees) [] = 0
hops (suc trees) (Leaf token ∷ nodes) = suc (hops trees nodes)
hops (suc trees) (Branch production count ∷ nodes) = suc (count + hops trees (drop count nodes))
