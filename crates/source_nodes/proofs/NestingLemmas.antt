-- How many parts of a production are found.
use Rattle.std.proofs.Common.{◌≡◌, ℕ, suc, List, [], ◌∷◌, length, ap, sym, ◌∙◌, refl}
use Rattle.std.proofs.lemmas.List.{length-map}
use Rattle.ilasm_grammar.specs.declared.tree.TreeNode.{TreeNode}
use Rattle.source_model.specs.Forest.{Forest, Part, below_each, each, parts, preorder}
use Rattle.source_nodes.specs.Walk.{Finds, nodes_below}
use Rattle.source_nodes.specs.declared.walk.Found.{Found}

pub below_length : (ps : List Part) → length (below_each ps) ≡ length ps
below_length [] = refl
below_length (p ∷ ps) = ap suc (below_length ps)

-- as many are found as there are
pub found_length : (nodes : List TreeNode) (found : List Found) (p : ℕ) (f : Forest) → Finds nodes found (parts (p ∷ []) f) → length found ≡ length (each p f)
found_length nodes found p f h =
    sym (length-map found (nodes_below nodes)) ∙ ap length h ∙ length-map (parts (p ∷ []) f) (λ (q : Part). preorder q.below)
    ∙ sym (below_length (parts (p ∷ []) f))
