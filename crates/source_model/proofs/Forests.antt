-- Each derivation is the preorder of one forest.
use Rattle.std.proofs.Common.{◌≡◌, ℕ, ◌≤◌, List, [], ◌∷◌, ◌++◌, length, length-append, take, drop, ap, sym, ◌∙◌, refl, arith}
use Rattle.std.proofs.Math.Seq.{take-append_seam, drop-append_seam}
use Rattle.ilasm_grammar.specs.Grammar.{Grammar, Derives}
use Rattle.ilasm_grammar.specs.declared.symbol.Symbol.{Symbol}
use Rattle.ilasm_grammar.specs.declared.tree.TreeNode.{TreeNode}
use Rattle.ilasm_grammar.specs.declared.tree.TreeNode.TheVariants.{Branch, Leaf}
use Rattle.source_model.specs.Forest as tree
use Rattle.source_model.specs.Forest.{Forest, preorder}
use Rattle.source_model.specs.Laws.{BeginsWithBranch, BeginsWithLeaf, ForestOpens, OneForest}

-- ---- there is one

abbrev forest_of : List TreeNode → Type 0
forest_of nodes = (f : Forest) × (preorder f ≡ nodes)

joined : (p count : ℕ) (below after nodes : List TreeNode) → count ≡ length below → nodes ≡ below ++ after → forest_of below → forest_of after
    → forest_of (Branch p count ∷ nodes)
joined p count below after nodes c n f g = (tree.branch p f.0 g.0, same)
  where
    counts : length (preorder f.0) ≡ count
    counts = ap length f.1 ∙ sym c

    same : preorder (tree.branch p f.0 g.0) ≡ Branch p count ∷ nodes
    same =
        ap (λ k. Branch p k ∷ (preorder f.0 ++ preorder g.0)) counts
        ∙ ap (λ ns. Branch p count ∷ ns) (ap (λ xs. xs ++ preorder g.0) f.1 ∙ ap (λ xs. below ++ xs) g.1 ∙ sym n)

forest_from : (g : Grammar) {at : ℕ} {symbols : List Symbol} {kinds : List ℕ} {nodes : List TreeNode} → Derives g at symbols kinds nodes → forest_of nodes
forest_from g Derives.none = (tree.none, refl)
forest_from g (Derives.leaf {at = at} d) = let h : forest_of _ = forest_from g d in (tree.leaf at h.0, ap (λ ns. Leaf at ∷ ns) h.1)
forest_from g (Derives.branch {production = p} {count = count} {below = below} {after = after} {nodes = nodes} e d s c k m) =
    joined p count below after nodes c m (forest_from g d) (forest_from g s)

-- ---- there is no other

same_leaf : (a b : ℕ) (x y : List TreeNode) → Leaf a ∷ x ≡ Leaf b ∷ y → (a ≡ b) × (x ≡ y)
same_leaf a b x y e = (grind arith, grind arith)

same_branch : (p q j k : ℕ) (x y : List TreeNode) → Branch p j ∷ x ≡ Branch q k ∷ y → (p ≡ q) × (j ≡ k) × (x ≡ y)
same_branch p q j k x y e = (grind arith, grind arith, grind arith)

no_node : (n : TreeNode) (ns : List TreeNode) → [] ≡ n ∷ ns → ⊥
no_node n ns e = grind arith

leaf_is_no_branch : (a p k : ℕ) (x y : List TreeNode) → Leaf a ∷ x ≡ Branch p k ∷ y → ⊥
leaf_is_no_branch a p k x y e = grind arith

fronts : (a b c d : List TreeNode) → length a ≡ length c → a ++ b ≡ c ++ d → a ≡ c
fronts a b c d n e = sym (take-append_seam a b) ∙ ap (λ k. take k (a ++ b)) n ∙ ap (take (length c)) e ∙ take-append_seam c d

backs : (a b c d : List TreeNode) → length a ≡ length c → a ++ b ≡ c ++ d → b ≡ d
backs a b c d n e = sym (drop-append_seam a b) ∙ ap (λ k. drop k (a ++ b)) n ∙ ap (drop (length c)) e ∙ drop-append_seam c d

same_forest : (f g : Forest) → preorder f ≡ preorder g → f ≡ g
same_forest tree.none tree.none e = refl
same_forest tree.none (tree.leaf b y) e = absurd (no_node _ _ e)
same_forest tree.none (tree.branch q c d) e = absurd (no_node _ _ e)
same_forest (tree.leaf a x) tree.none e = absurd (no_node _ _ (sym e))
same_forest (tree.leaf a x) (tree.leaf b y) e =
    let h = same_leaf a b (preorder x) (preorder y) e in
    ap (λ k. tree.leaf k x) h.0 ∙ ap (tree.leaf b) (same_forest x y h.1)
same_forest (tree.leaf a x) (tree.branch q c d) e = absurd (leaf_is_no_branch _ _ _ _ _ e)
same_forest (tree.branch p a b) tree.none e = absurd (no_node _ _ (sym e))
same_forest (tree.branch p a b) (tree.leaf t y) e = absurd (leaf_is_no_branch _ _ _ _ _ (sym e))
same_forest (tree.branch p a b) (tree.branch q c d) e =
    let h = same_branch p q (length (preorder a)) (length (preorder c)) (preorder a ++ preorder b) (preorder c ++ preorder d) e in
    let first : a ≡ c = same_forest a c (fronts (preorder a) (preorder b) (preorder c) (preorder d) h.1 h.2) in
    let rest : b ≡ d = same_forest b d (backs (preorder a) (preorder b) (preorder c) (preorder d) h.1 h.2) in
    ap (λ k. tree.branch k a b) h.0 ∙ ap (λ x. tree.branch q x b) first ∙ ap (tree.branch q c) rest

pub one_forest : OneForest
one_forest = record { some = λ g at symbols kinds nodes d. forest_from g d; one = same_forest }

-- ---- how it opens

opens_none : (f : Forest) → preorder f ≡ [] → f ≡ tree.none
opens_none tree.none e = refl
opens_none (tree.leaf a x) e = absurd (no_node _ _ (sym e))
opens_none (tree.branch p a b) e = absurd (no_node _ _ (sym e))

opens_leaf : (f : Forest) (token : ℕ) (nodes : List TreeNode) → preorder f ≡ Leaf token ∷ nodes → BeginsWithLeaf f token nodes
opens_leaf tree.none token nodes e = absurd (no_node _ _ e)
opens_leaf (tree.leaf a x) token nodes e =
    let h = same_leaf a token (preorder x) nodes e in record { after = x; is = ap (λ k. tree.leaf k x) h.0; rest = h.1 }
opens_leaf (tree.branch p a b) token nodes e = absurd (leaf_is_no_branch _ _ _ _ _ (sym e))

front_of : (a b nodes : List TreeNode) (count : ℕ) → length a ≡ count → a ++ b ≡ nodes → a ≡ take count nodes
front_of a b nodes count n e = sym (take-append_seam a b) ∙ ap (λ k. take k (a ++ b)) n ∙ ap (take count) e

back_of : (a b nodes : List TreeNode) (count : ℕ) → length a ≡ count → a ++ b ≡ nodes → b ≡ drop count nodes
back_of a b nodes count n e = sym (drop-append_seam a b) ∙ ap (λ k. drop k (a ++ b)) n ∙ ap (drop count) e

fits_in : (a b nodes : List TreeNode) (count : ℕ) → length a ≡ count → a ++ b ≡ nodes → count ≤ length nodes
fits_in a b nodes count n e = omega (arith, n, ap length e, length-append a b)

opens_branch : (f : Forest) (p count : ℕ) (nodes : List TreeNode) → preorder f ≡ Branch p count ∷ nodes → BeginsWithBranch f p count nodes
opens_branch tree.none p count nodes e = absurd (no_node _ _ e)
opens_branch (tree.leaf a x) p count nodes e = absurd (leaf_is_no_branch _ _ _ _ _ e)
opens_branch (tree.branch q a b) p count nodes e =
    let h = same_branch q p (length (preorder a)) count (preorder a ++ preorder b) nodes e in
    record {
      below = a;
      after = b;
      is = ap (λ k. tree.branch k a b) h.0;
      within = fits_in (preorder a) (preorder b) nodes count h.1 h.2;
      inner = front_of (preorder a) (preorder b) nodes count h.1 h.2;
      rest = back_of (preorder a) (preorder b) nodes count h.1 h.2;
    }

pub forest_opens : ForestOpens
forest_opens = record { none = opens_none; leaf = opens_leaf; branch = opens_branch }
