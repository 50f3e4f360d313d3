-- How far the walk for the labels of a method has come.
use Rattle.std.proofs.Common.{◌≡◌, ℕ, ◌+◌, ◌≤◌, List, [], ◌∷◌, ◌++◌, length, map, take, drop, ap, sym, ◌∙◌, refl, arith, length-drop, drop-drop, append-nil, slice_get}
use Rattle.std.specs.Prelude.{Bool, true, false, Some, ◌==◌, ◌||◌, if◌then◌else◌}
use Rattle.std.proofs.lemmas.Bool.Decides.{Decides-eqb}
use Rattle.std.proofs.lemmas.List.{append_assoc, drop_all, drop_more, take-append-drop}
use Rattle.std.proofs.lemmas.Option.{slice_get_within, get_or_from_slice_get}
use Rattle.ilasm_grammar.specs.declared.productions.TheConstants.{ITEM_NAME}
use Rattle.ilasm_grammar.specs.declared.tree.TreeNode.{TreeNode}
use Rattle.ilasm_grammar.specs.declared.tree.TreeNode.TheVariants.{Branch, Leaf}
use Rattle.source_model.specs.Forest as tree
use Rattle.source_model.specs.Forest.{Forest, Part, part, parts_outside, preorder, is_among, joined, leaf_at}
use Rattle.source_model.specs.Instructions.{instruction_forms}
use Rattle.source_model.specs.Laws.{ForestOpens, ForestsJoin, OneForest}
use Rattle.source_nodes.specs.Walk.{IsForest}

-- the first tokens at the top of some parts
abbrev pub tokens_at : List Part → List ℕ
tokens_at ps = map (λ p. leaf_at 0 p.below) ps

-- up to `at` these tokens were found; what is left is a forest, and what is in it completes what is in the whole
pub record Named (nodes : List TreeNode) (shut sought : List ℕ) (at : ℕ) (found : List ℕ) : Type 0 where
  pub left : Forest
  pub within : at ≤ length nodes
  pub is : preorder left ≡ drop at nodes
  pub finds : (f : Forest) → preorder f ≡ nodes → found ++ tokens_at (parts_outside shut sought left) ≡ tokens_at (parts_outside shut sought f)

module _ (one : OneForest) (opens : ForestOpens) (joins : ForestsJoin) (nodes : List TreeNode) (shut sought : List ℕ) where
  pub begin : IsForest nodes → Named nodes shut sought 0 []
  begin f = record {
    left = f.0;
    within = omega arith;
    is = f.1;
    finds = λ g e. ap (λ h. tokens_at (parts_outside shut sought h)) (one.one f.0 g (f.1 ∙ sym e));
  }

  -- what is left at a node begins with it
  from_node : (at : ℕ) (node : TreeNode) → slice_get nodes at ≡ Some node → drop at nodes ≡ node ∷ drop (at + 1) nodes
  from_node at node e =
      drop_more nodes at node (slice_get_within nodes at node e)
      ∙ ap (λ x. x ∷ drop (at + 1) nodes) (get_or_from_slice_get nodes at node node e)

  pub past_leaf : (at token : ℕ) (found : List ℕ) → slice_get nodes at ≡ Some (Leaf token) → Named nodes shut sought at found
      → Named nodes shut sought (at + 1) found
  past_leaf at token found e l =
      let b = opens.leaf l.left token (drop (at + 1) nodes) (l.is ∙ from_node at (Leaf token) e) in
      let less = slice_get_within nodes at (Leaf token) e in
      record {
        left = b.after;
        within = omega (arith, less);
        is = b.rest;
        finds = λ f whole. ap (λ g. found ++ tokens_at (parts_outside shut sought g)) (sym b.is) ∙ l.finds f whole;
      }

  -- the parts of a branch: itself where it is sought, none in it where it is shut, else those in it; and those after it
  parts_at : (q : ℕ) (b a : Forest) (c d : Bool) → is_among sought q ≡ c → is_among shut q ≡ d
      → parts_outside shut sought (tree.branch q b a) ≡ (if c then part q b ∷ [] else if d then [] else parts_outside shut sought b) ++ parts_outside shut sought a
  parts_at q b a c d e g =
      ap (λ (x : Bool). (if x then part q b ∷ [] else if is_among shut q then [] else parts_outside shut sought b) ++ parts_outside shut sought a) e
      ∙ ap (λ (x : Bool). (if c then part q b ∷ [] else if x then [] else parts_outside shut sought b) ++ parts_outside shut sought a) g

  -- the same of one that is sought, whether it is shut or not
  sought_at : (q : ℕ) (b a : Forest) → is_among sought q ≡ true → parts_outside shut sought (tree.branch q b a) ≡ part q b ∷ parts_outside shut sought a
  sought_at q b a e = parts_at q b a true (is_among shut q) e refl

  -- a branch of another production: what stands below it is next
  pub into_branch : (at q count : ℕ) (found : List ℕ) → slice_get nodes at ≡ Some (Branch q count) → is_among sought q ≡ false
      → is_among shut q ≡ false → Named nodes shut sought at found → Named nodes shut sought (at + 1) found
  into_branch at q count found e differs unshut l =
      let b = opens.branch l.left q count (drop (at + 1) nodes) (l.is ∙ from_node at (Branch q count) e) in
      let less = slice_get_within nodes at (Branch q count) e in
      let inside : parts_outside shut sought (joined b.below b.after) ≡ parts_outside shut sought l.left =
      joins.parts shut sought b.below b.after ∙ sym (parts_at q b.below b.after false false differs unshut) ∙ ap (parts_outside shut sought) (sym b.is) in
      record {
        left = joined b.below b.after;
        within = omega (arith, less);
        is = joins.nodes b.below b.after ∙ ap (λ ns. ns ++ preorder b.after) b.inner ∙ ap (λ ns. take count (drop (at + 1) nodes) ++ ns) b.rest
            ∙ take-append-drop count (drop (at + 1) nodes);
        finds = λ f whole. ap (λ ps. found ++ tokens_at ps) inside ∙ l.finds f whole;
      }

  -- one that is sought: its token is found, and what stands after it is next
  pub past_branch : (at q count k : ℕ) (found : List ℕ) → slice_get nodes at ≡ Some (Branch q count) → is_among sought q ≡ true
      → ((g : Forest) → preorder g ≡ take count (drop (at + 1) nodes) → k ≡ leaf_at 0 g)
      → Named nodes shut sought at found → Named nodes shut sought (at + 1 + count) (found ++ k ∷ [])
  past_branch at q count k found e same token l =
      let b = opens.branch l.left q count (drop (at + 1) nodes) (l.is ∙ from_node at (Branch q count) e) in
      let less = slice_get_within nodes at (Branch q count) e in
      let after = tokens_at (parts_outside shut sought b.after) in
      let inside : leaf_at 0 b.below ∷ after ≡ tokens_at (parts_outside shut sought l.left) =
      ap tokens_at (sym (sought_at q b.below b.after same)) ∙ ap (λ g. tokens_at (parts_outside shut sought g)) (sym b.is) in
      record {
        left = b.after;
        within = omega (arith, less, b.within, length-drop (at + 1) nodes);
        is = b.rest ∙ drop-drop count (at + 1) nodes;
        finds = λ f whole.
            append_assoc found (k ∷ []) after
            ∙ ap (λ n. found ++ (n ∷ after)) (token b.below b.inner)
            ∙ ap (λ ns. found ++ ns) inside
            ∙ l.finds f whole;
      }

  -- what stands below a branch is a forest
  pub below_node : (at q count : ℕ) (found : List ℕ) → slice_get nodes at ≡ Some (Branch q count) → Named nodes shut sought at found
      → (g : Forest) × (preorder g ≡ take count (drop (at + 1) nodes))
  below_node at q count found e l =
      let b = opens.branch l.left q count (drop (at + 1) nodes) (l.is ∙ from_node at (Branch q count) e) in (b.below, b.inner)

  -- one that is shut: what stands after it is next
  pub past_shut : (at q count : ℕ) (found : List ℕ) → slice_get nodes at ≡ Some (Branch q count) → is_among sought q ≡ false
      → is_among shut q ≡ true → Named nodes shut sought at found → Named nodes shut sought (at + 1 + count) found
  past_shut at q count found e differs closed l =
      let b = opens.branch l.left q count (drop (at + 1) nodes) (l.is ∙ from_node at (Branch q count) e) in
      let less = slice_get_within nodes at (Branch q count) e in
      let inside : parts_outside shut sought b.after ≡ parts_outside shut sought l.left =
      sym (parts_at q b.below b.after false true differs closed) ∙ ap (parts_outside shut sought) (sym b.is) in
      record {
        left = b.after;
        within = omega (arith, less, b.within, length-drop (at + 1) nodes);
        is = b.rest ∙ drop-drop count (at + 1) nodes;
        finds = λ f whole. ap (λ ps. found ++ tokens_at ps) inside ∙ l.finds f whole;
      }

  -- at the end all are found
  pub all_named : (at : ℕ) (found : List ℕ) → length nodes ≤ at → Named nodes shut sought at found
      → (f : Forest) → preorder f ≡ nodes → found ≡ tokens_at (parts_outside shut sought f)
  all_named at found over l f whole =
      let nothing : preorder l.left ≡ [] = l.is ∙ drop_all at nodes over in
      sym (ap (λ g. found ++ tokens_at (parts_outside shut sought g)) (opens.none l.left nothing) ∙ append-nil found)
      ∙ l.finds f whole

-- ---- one production

same_number : (q p : ℕ) → (q == p) ≡ true → q ≡ p
same_number q p e = (Decides-eqb q p).0 e

pub name_among : (p : ℕ) → p ≡ ITEM_NAME → is_among (ITEM_NAME ∷ []) p ≡ true
name_among p e = ap (is_among (ITEM_NAME ∷ [])) e

pub no_name_among : (p : ℕ) → (p == ITEM_NAME) ≡ false → is_among (ITEM_NAME ∷ []) p ≡ false
no_name_among p e = go (ITEM_NAME == p) refl
  where
    go : (c : Bool) → (ITEM_NAME == p) ≡ c → (c || false) ≡ false
    go false is = refl
    go true is =
        let same : (p == ITEM_NAME) ≡ true = (Decides-eqb p ITEM_NAME).1 (sym (same_number ITEM_NAME p is)) in
        let no : true ≡ false = sym same ∙ e in absurd cc

pub forms_apart : (p : ℕ) → is_among instruction_forms p ≡ true → is_among (ITEM_NAME ∷ []) p ≡ false
forms_apart p e = go (ITEM_NAME == p) refl
  where
    go : (c : Bool) → (ITEM_NAME == p) ≡ c → (c || false) ≡ false
    go false is = refl
    go true is = let no : false ≡ true = ap (is_among instruction_forms) (same_number ITEM_NAME p is) ∙ e in absurd cc
