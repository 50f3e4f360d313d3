-- What is looked for in two forests, one after the other.
use Rattle.std.proofs.Common.{◌≡◌, ℕ, List, [], ◌∷◌, ◌++◌, ap, sym, ◌∙◌, refl}
use Rattle.std.specs.Prelude.{if◌then◌else◌, length}
use Rattle.std.proofs.lemmas.List.{append_assoc}
use Rattle.ilasm_grammar.specs.declared.tree.TreeNode.TheVariants.{Branch, Leaf}
use Rattle.source_model.specs.Forest as tree
use Rattle.source_model.specs.Forest.{Forest, Part, part, preorder, tokens_of, leaves, parts_outside, is_among, joined}
use Rattle.source_model.specs.Laws.{ForestsJoin}
use Rattle.source_model.specs.Nodes.{Around, Node, entered, nodes_in}
use Rattle.source_model.specs.Source.{Source}

joined_nodes : (f g : Forest) → preorder (joined f g) ≡ preorder f ++ preorder g
joined_nodes tree.none g = refl
joined_nodes (tree.leaf t a) g = ap (λ ns. Leaf t ∷ ns) (joined_nodes a g)
joined_nodes (tree.branch p b a) g =
    ap (λ ns. Branch p (length (preorder b)) ∷ (preorder b ++ ns)) (joined_nodes a g)
    ∙ ap (λ ns. Branch p (length (preorder b)) ∷ ns) (sym (append_assoc (preorder b) (preorder a) (preorder g)))

joined_tokens : (f g : Forest) → tokens_of (joined f g) ≡ tokens_of f ++ tokens_of g
joined_tokens tree.none g = refl
joined_tokens (tree.leaf t a) g = ap (λ ns. t ∷ ns) (joined_tokens a g)
joined_tokens (tree.branch p b a) g =
    ap (λ ns. tokens_of b ++ ns) (joined_tokens a g) ∙ sym (append_assoc (tokens_of b) (tokens_of a) (tokens_of g))

joined_leaves : (f g : Forest) → leaves (joined f g) ≡ leaves f ++ leaves g
joined_leaves tree.none g = refl
joined_leaves (tree.leaf t a) g = ap (λ ns. t ∷ ns) (joined_leaves a g)
joined_leaves (tree.branch p b a) g = joined_leaves a g

-- what a branch gives, before what comes after it
abbrev own_parts : List ℕ → List ℕ → ℕ → Forest → List Part
own_parts shut sought p b =
    if is_among sought p then part p b ∷ [] else if is_among shut p then [] else parts_outside shut sought b

joined_parts : (shut sought : List ℕ) (f g : Forest) → parts_outside shut sought (joined f g) ≡ parts_outside shut sought f ++ parts_outside shut sought g
joined_parts shut sought tree.none g = refl
joined_parts shut sought (tree.leaf t a) g = joined_parts shut sought a g
joined_parts shut sought (tree.branch p b a) g =
    ap (λ ps. own_parts shut sought p b ++ ps) (joined_parts shut sought a g)
    ∙ sym (append_assoc (own_parts shut sought p b) (parts_outside shut sought a) (parts_outside shut sought g))

abbrev own_nodes : Source → Around → ℕ → Forest → List Node
own_nodes s a p b =
    record { production = p; below = b; around = entered s a p b } ∷ nodes_in s (entered s a p b) b

joined_productions : (s : Source) (a : Around) (f g : Forest) → nodes_in s a (joined f g) ≡ nodes_in s a f ++ nodes_in s a g
joined_productions s a tree.none g = refl
joined_productions s a (tree.leaf t x) g = joined_productions s a x g
joined_productions s a (tree.branch p b x) g =
    ap (λ ns. own_nodes s a p b ++ ns) (joined_productions s a x g)
    ∙ sym (append_assoc (own_nodes s a p b) (nodes_in s a x) (nodes_in s a g))

pub forests_join : ForestsJoin
forests_join = record {
  nodes = joined_nodes;
  tokens = joined_tokens;
  leaves = joined_leaves;
  parts = joined_parts;
  productions = joined_productions;
}
