-- The names of declarations, where it is known how many nodes of their production are left.
use Rattle.std.proofs.Common.{◌≡◌, ℕ, suc, ◌+◌, ◌≤◌, List, [], ◌∷◌, ◌++◌, length, take, refl, ap, sym, ◌∙◌, arith, append-nil}
use Rattle.std.proofs.lemmas.Bool.Decides.{Decides-eqb}
use Rattle.std.proofs.lemmas.List.Sums.{sum_by-append}
use Rattle.std.specs.Prelude.{◌==◌}
use Rattle.std.specs.List.{flat_map}
use Rattle.ilasm_grammar.specs.declared.tree.TreeNode.{TreeNode}
use Rattle.ilasm_grammar.specs.declared.tree.TreeNode.TheVariants.{Branch, Leaf}
use Rattle.source_model.specs.Forest as tree
use Rattle.source_model.specs.Forest.{Forest, below_each, each, part, parts, preorder}
use Rattle.source_model.specs.Laws.{ForestsJoin}
use Rattle.source_syntax.specs.Namings.{names_in, production_of, tokens_named}
use Rattle.source_nodes.specs.Walk.{IsForest, Opens, is_of}
use Rattle.source_syntax.specs.declared.name_lists.Naming.{Naming}
use Rattle.source_nodes.specs.declared.walk.Opened.{Opened}
use Rattle.source_nodes.proofs.Collecting.{each_own}
use Rattle.source_syntax.proofs.NamingLemmas.{Names}
use Rattle.check_source.proofs.CensusLemmas.{count_branch, count_first, count_of, no_parts, one_if}

-- where no node has the production nothing is named
pub all_found : (naming : Naming) (f : Forest) (left : List TreeNode) (found : List ℕ) → 0 ≡ count_of (production_of naming) left → Names naming f left found
    → found ≡ names_in naming f
all_found naming f left found none sf =
    let nothing : names_in naming sf.rest ≡ [] =
    ap (λ ps. flat_map (tokens_named naming) (below_each ps)) (no_parts (production_of naming) sf.rest (none ∙ ap (count_of (production_of naming)) (sym sf.is))) in
    sym (ap (λ ks. found ++ ks) nothing ∙ append-nil found) ∙ sf.same

-- the names of one declaration alone
pub one_named : (naming : Naming) (b : Forest) → names_in naming (tree.branch (production_of naming) b tree.none) ≡ tokens_named naming b
one_named naming b = ap (flat_map (tokens_named naming)) (each_own (production_of naming) b tree.none) ∙ append-nil (tokens_named naming b)

-- ---- the first tree of some nodes

front_is : {X : Type 0} (xs ys : List X) → take (length xs) (xs ++ ys) ≡ xs
front_is [] ys = refl
front_is (x ∷ xs) ys = ap (λ zs. x ∷ zs) (front_is xs ys)

first_and : (n : ℕ) → 1 + n ≡ suc n
first_and n = omega arith

pub tree_of : (left : List TreeNode) (x : Opened) (p count : ℕ) → Opens left x → x.node ≡ Branch p count → IsForest left
    → (b : Forest) → preorder b ≡ x.below.now → preorder (tree.branch p b tree.none) ≡ take (1 + length x.below.now) left
tree_of left x p count o is f b e =
    let w = o.branch f.0 p count f.1 is in
    let whole : left ≡ Branch p (length (preorder w.inner)) ∷ (preorder w.inner ++ preorder w.rest) = sym f.1 ∙ ap preorder w.is in
    let same : preorder w.inner ≡ preorder b = w.inner-is ∙ sym e in
    ap (λ ns. Branch p (length (preorder b)) ∷ ns) (append-nil (preorder b))
    ∙ ap (λ ns. Branch p (length ns) ∷ ns) (sym same)
    ∙ ap (λ ns. Branch p (length (preorder w.inner)) ∷ ns) (sym (front_is (preorder w.inner) (preorder w.rest)))
    ∙ ap (λ n. take n (Branch p (length (preorder w.inner)) ∷ (preorder w.inner ++ preorder w.rest))) (sym (first_and (length (preorder w.inner))))
    ∙ ap (λ ns. take (1 + length (preorder w.inner)) ns) (sym whole)
    ∙ ap (λ ns. take (1 + length ns) left) w.inner-is

pub tree_forest : (left : List TreeNode) (x : Opened) (p count : ℕ) → Opens left x → x.node ≡ Branch p count → IsForest left
    → IsForest (take (1 + length x.below.now) left)
tree_forest left x p count o is f =
    let w = o.branch f.0 p count f.1 is in
    (tree.branch p w.inner tree.none, tree_of left x p count o is f w.inner w.inner-is)

-- ---- how many are left

pub fewer_after : (q : ℕ) (left : List TreeNode) (x : Opened) (count : ℕ) → Opens left x → x.node ≡ Branch q count → IsForest left
    → suc (count_of q x.after.now) ≤ count_of q left
fewer_after q left x count o is f =
    let w = o.branch f.0 q count f.1 is in
    let one : one_if (q == q) ≡ 1 = ap one_if ((Decides-eqb q q).1 refl) in
    let whole : count_of q left ≡ count_of q (preorder (tree.branch q w.inner w.rest)) = ap (count_of q) (sym f.1 ∙ ap preorder w.is) in
    let back : count_of q x.after.now ≡ count_of q (preorder w.rest) = ap (count_of q) (sym w.rest-is) in
    omega (arith, one, whole, back, count_branch q q w.inner w.rest)

pub fewer_behind : (q : ℕ) (left : List TreeNode) (x : Opened) → ForestsJoin → Opens left x → IsForest left → count_of q x.behind.now ≤ count_of q left
fewer_behind q left x joins o f = go x.node refl
  where
    go : (node : TreeNode) → x.node ≡ node → count_of q x.behind.now ≤ count_of q left
    go (Leaf token) is =
        let w = o.leaf f.0 token f.1 is in
        let whole : count_of q left ≡ count_of q (preorder (tree.leaf token w.after)) = ap (count_of q) (sym f.1 ∙ ap preorder w.is) in
        let back : count_of q x.behind.now ≡ count_of q (preorder w.after) = ap (count_of q) (sym w.rest) in
        omega (arith, whole, back, count_first q (Leaf token) (preorder w.after))
    go (Branch p count) is =
        let w = o.branch f.0 p count f.1 is in
        let whole : count_of q left ≡ count_of q (preorder (tree.branch p w.inner w.rest)) = ap (count_of q) (sym f.1 ∙ ap preorder w.is) in
        let back : count_of q x.behind.now ≡ count_of q (preorder w.inner ++ preorder w.rest) =
        ap (count_of q) (sym w.behind-is ∙ joins.nodes w.inner w.rest) in
        omega (arith, whole, back, count_branch q p w.inner w.rest, sum_by-append (λ (n : TreeNode). one_if (is_of q n)) (preorder w.inner) (preorder w.rest))

-- the names so far and those of one more declaration
pub takes_one : (naming : Naming) (p : ℕ) (tokens : List ℕ) (b : Forest) → p ≡ production_of naming → tokens ≡ names_in naming (tree.branch p b tree.none)
    → tokens ≡ tokens_named naming b
takes_one naming p tokens b own e = e ∙ ap (λ q. names_in naming (tree.branch q b tree.none)) own ∙ one_named naming b
