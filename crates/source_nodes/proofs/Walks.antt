-- How far a search through the nodes of a forest has come.
use Rattle.std.proofs.Common.{◌≡◌, ℕ, ◌+◌, ◌-◌, ◌≤◌, List, [], ◌∷◌, ◌++◌, zero, suc, length, map, take, drop, ap, sym, ◌∙◌, refl, arith, length-drop, drop-drop, slice_get}
use Rattle.std.specs.Prelude.{Bool, true, false, ◌==◌, ◌||◌, Some, if◌then◌else◌, get_or}
use Rattle.std.proofs.lemmas.List.{append_assoc, drop_more, map-append, take-append-drop}
use Rattle.std.proofs.lemmas.Option.{slice_get_within, get_or_from_slice_get}
use Rattle.ilasm_grammar.specs.declared.tree.TreeNode.{TreeNode}
use Rattle.ilasm_grammar.specs.declared.tree.TreeNode.TheVariants.{Branch, Leaf}
use Rattle.source_model.specs.Forest as tree
use Rattle.source_model.specs.Forest.{Forest, Part, part, preorder, parts, is_among, joined}
use Rattle.source_model.specs.Laws.{ForestOpens, ForestsJoin, OneForest}
use Rattle.source_nodes.specs.Walk.{IsForest, nodes_below}
use Rattle.source_nodes.specs.declared.walk.Found.{Found}

-- the nodes below the parts of a production
abbrev pub belows : ℕ → Forest → List (List TreeNode)
belows p f = map (λ q. preorder q.below) (parts (p ∷ []) f)

-- up to `at` these were found; what is left is a forest, and what is in it completes what is in the whole
pub record Looked (nodes : List TreeNode) (p at : ℕ) (found : List Found) : Type 0 where
  pub left : Forest
  pub within : at ≤ length nodes
  pub is : preorder left ≡ drop at nodes
  pub finds : (f : Forest) → preorder f ≡ nodes → map (nodes_below nodes) found ++ belows p left ≡ belows p f

module _ (one : OneForest) (opens : ForestOpens) (joins : ForestsJoin) (nodes : List TreeNode) (p : ℕ) where
  pub begin : IsForest nodes → Looked nodes p 0 []
  begin f = record {
    left = f.0;
    within = omega arith;
    is = f.1;
    finds = λ g e. ap (belows p) (one.one f.0 g (f.1 ∙ sym e));
  }

  -- what is left at a node begins with it
  from_node : (at : ℕ) (node : TreeNode) → slice_get nodes at ≡ Some node → drop at nodes ≡ node ∷ drop (at + 1) nodes
  from_node at node e =
      drop_more nodes at node (slice_get_within nodes at node e)
      ∙ ap (λ x. x ∷ drop (at + 1) nodes) (get_or_from_slice_get nodes at node node e)

  pub past_leaf : (at token : ℕ) (found : List Found) → slice_get nodes at ≡ Some (Leaf token) → Looked nodes p at found → Looked nodes p (at + 1) found
  past_leaf at token found e l =
      let b = opens.leaf l.left token (drop (at + 1) nodes) (l.is ∙ from_node at (Leaf token) e) in
      let less = slice_get_within nodes at (Leaf token) e in
      record {
        left = b.after;
        within = omega (arith, less);
        is = b.rest;
        finds = λ f whole. ap (λ g. map (nodes_below nodes) found ++ belows p g) (sym b.is) ∙ l.finds f whole;
      }

  -- the parts of a branch of another production are those in it, and that of one of this production is itself
  other_parts : (q : ℕ) (b a : Forest) → (p == q) ≡ false → parts (p ∷ []) (tree.branch q b a) ≡ parts (p ∷ []) b ++ parts (p ∷ []) a
  other_parts q b a e = ap (λ (c : Bool). (if c || false then part q b ∷ [] else parts (p ∷ []) b) ++ parts (p ∷ []) a) e

  own_part : (q : ℕ) (b a : Forest) → (p == q) ≡ true → parts (p ∷ []) (tree.branch q b a) ≡ part q b ∷ parts (p ∷ []) a
  own_part q b a e = ap (λ (c : Bool). (if c || false then part q b ∷ [] else parts (p ∷ []) b) ++ parts (p ∷ []) a) e

  -- a branch of another production: what stands below it is next
  pub into_branch : (at q count : ℕ) (found : List Found) → slice_get nodes at ≡ Some (Branch q count) → (p == q) ≡ false → Looked nodes p at found
      → Looked nodes p (at + 1) found
  into_branch at q count found e differs l =
      let b = opens.branch l.left q count (drop (at + 1) nodes) (l.is ∙ from_node at (Branch q count) e) in
      let less = slice_get_within nodes at (Branch q count) e in
      let inside : parts (p ∷ []) (joined b.below b.after) ≡ parts (p ∷ []) l.left =
      joins.parts [] (p ∷ []) b.below b.after ∙ sym (other_parts q b.below b.after differs) ∙ ap (parts (p ∷ [])) (sym b.is) in
      record {
        left = joined b.below b.after;
        within = omega (arith, less);
        is = joins.nodes b.below b.after ∙ ap (λ ns. ns ++ preorder b.after) b.inner ∙ ap (λ ns. take count (drop (at + 1) nodes) ++ ns) b.rest
            ∙ take-append-drop count (drop (at + 1) nodes);
        finds = λ f whole.
            ap (λ ps. map (nodes_below nodes) found ++ map (λ x. preorder x.below) ps) inside ∙ l.finds f whole;
      }

  -- one of this production: it is found, and what stands after it is next
  pub past_branch : (at q count : ℕ) (found : List Found) → slice_get nodes at ≡ Some (Branch q count) → (p == q) ≡ true → Looked nodes p at found
      → Looked nodes p (at + (1 + count)) (found ++ record { at = at; count = count } ∷ [])
  past_branch at q count found e same l =
      let b = opens.branch l.left q count (drop (at + 1) nodes) (l.is ∙ from_node at (Branch q count) e) in
      let less = slice_get_within nodes at (Branch q count) e in
      let x : Found = record { at = at; count = count } in
      let inside : preorder b.below ∷ belows p b.after ≡ belows p l.left =
      ap (map (λ y. preorder y.below)) (sym (own_part q b.below b.after same)) ∙ ap (belows p) (sym b.is) in
      record {
        left = b.after;
        within = omega (arith, less, b.within, length-drop (at + 1) nodes);
        is = b.rest ∙ drop_drop_at count;
        finds = λ f whole.
            ap (λ ns. ns ++ belows p b.after) (map-append (nodes_below nodes) found (x ∷ []))
            ∙ append_assoc (map (nodes_below nodes) found) (nodes_below nodes x ∷ []) (belows p b.after)
            ∙ ap (λ n. map (nodes_below nodes) found ++ (n ∷ belows p b.after)) (sym b.inner)
            ∙ ap (λ ns. map (nodes_below nodes) found ++ ns) inside
            ∙ l.finds f whole;
      }
    where
      drop_drop_at : (n : ℕ) → drop n (drop (at + 1) nodes) ≡ drop (at + (1 + n)) nodes
      drop_drop_at n = let same : at + 1 + n ≡ at + (1 + n) = omega arith in drop-drop n (at + 1) nodes ∙ ap (λ k. drop k nodes) same

-- ---- a search for the first

-- nothing is found yet: what is left is a forest, and it has the parts of the whole
pub record Left (nodes : List TreeNode) (p : ℕ) (left : List TreeNode) : Type 0 where
  pub forest : Forest
  pub is : preorder forest ≡ left
  pub same : (f : Forest) → preorder f ≡ nodes → parts (p ∷ []) forest ≡ parts (p ∷ []) f

module _ (one : OneForest) (opens : ForestOpens) (joins : ForestsJoin) (nodes : List TreeNode) (p : ℕ) where
  pub all_left : IsForest nodes → Left nodes p nodes
  all_left f = record { forest = f.0; is = f.1; same = λ g e. ap (parts (p ∷ [])) (one.one f.0 g (f.1 ∙ sym e)) }

  pub left_of_leaf : (token : ℕ) (left rest : List TreeNode) → left ≡ Leaf token ∷ rest → Left nodes p left → Left nodes p rest
  left_of_leaf token left rest e l =
      let b = opens.leaf l.forest token rest (l.is ∙ e) in
      record { forest = b.after; is = b.rest; same = λ f whole. ap (parts (p ∷ [])) (sym b.is) ∙ l.same f whole }

  pub left_of_branch : (q count : ℕ) (left rest : List TreeNode) → left ≡ Branch q count ∷ rest → (p == q) ≡ false → Left nodes p left → Left nodes p rest
  left_of_branch q count left rest e differs l =
      let b = opens.branch l.forest q count rest (l.is ∙ e) in
      let inside : parts (p ∷ []) (joined b.below b.after) ≡ parts (p ∷ []) l.forest =
      joins.parts [] (p ∷ []) b.below b.after ∙ sym (other_parts one opens joins nodes p q b.below b.after differs) ∙ ap (parts (p ∷ [])) (sym b.is) in
      record {
        forest = joined b.below b.after;
        is = joins.nodes b.below b.after ∙ ap (λ ns. ns ++ preorder b.after) b.inner ∙ ap (λ ns. take count rest ++ ns) b.rest
            ∙ take-append-drop count rest;
        same = λ f whole. inside ∙ l.same f whole;
      }

  -- at a branch of the production: what stands below it is the first
  pub first_is : (q count : ℕ) (left rest : List TreeNode) → left ≡ Branch q count ∷ rest → (p == q) ≡ true → Left nodes p left
      → (f : Forest) → preorder f ≡ nodes → take count rest ≡ preorder (tree.the p f)
  first_is q count left rest e same l f whole =
      let b = opens.branch l.forest q count rest (l.is ∙ e) in
      let ps : part q b.below ∷ parts (p ∷ []) b.after ≡ parts (p ∷ []) f =
      sym (own_part one opens joins nodes p q b.below b.after same) ∙ ap (parts (p ∷ [])) (sym b.is) ∙ l.same f whole in
      sym b.inner ∙ ap (λ xs. preorder (tree.first_or tree.none (tree.below_each xs))) ps

  pub fits_rest : (q count : ℕ) (left rest : List TreeNode) → left ≡ Branch q count ∷ rest → Left nodes p left → count ≤ length rest
  fits_rest q count left rest e l = (opens.branch l.forest q count rest (l.is ∙ e)).within

  pub there_is : (q count : ℕ) (left rest : List TreeNode) → left ≡ Branch q count ∷ rest → (p == q) ≡ true → Left nodes p left
      → (f : Forest) → preorder f ≡ nodes → true ≡ tree.has p f
  there_is q count left rest e same l f whole =
      let b = opens.branch l.forest q count rest (l.is ∙ e) in
      let ps : part q b.below ∷ parts (p ∷ []) b.after ≡ parts (p ∷ []) f =
      sym (own_part one opens joins nodes p q b.below b.after same) ∙ ap (parts (p ∷ [])) (sym b.is) ∙ l.same f whole in
      ap tree.is_any_part ps

  -- at the end there is none
  pub none_found : (left : List TreeNode) → left ≡ [] → Left nodes p left → (f : Forest) → preorder f ≡ nodes → [] ≡ parts (p ∷ []) f
  none_found left e l f whole = ap (parts (p ∷ [])) (sym (opens.none l.forest (l.is ∙ e))) ∙ l.same f whole

-- ---- other ways through

-- what is left is a forest, and what is asked of it now is what is asked of the whole
pub record Asks {X : Type 0} (now whole : Forest → X) (nodes left : List TreeNode) : Type 0 where
  pub forest : Forest
  pub is : preorder forest ≡ left
  pub same : (f : Forest) → preorder f ≡ nodes → now forest ≡ whole f

module _ {X : Type 0} (one : OneForest) (opens : ForestOpens) (now whole : Forest → X) (nodes : List TreeNode) where
  pub asks_all : IsForest nodes → Asks whole whole nodes nodes
  asks_all f = record { forest = f.0; is = f.1; same = λ g e. ap whole (one.one f.0 g (f.1 ∙ sym e)) }

  -- past a leaf, where nothing is asked of it
  pub asks_past_leaf : (next : Forest → X) (token : ℕ) (left rest : List TreeNode) → ((a : Forest) → next a ≡ now (tree.leaf token a))
      → left ≡ Leaf token ∷ rest → Asks now whole nodes left → Asks next whole nodes rest
  asks_past_leaf next token left rest steps e l =
      let b = opens.leaf l.forest token rest (l.is ∙ e) in
      record { forest = b.after; is = b.rest; same = λ f h. steps b.after ∙ ap now (sym b.is) ∙ l.same f h }

  -- past a branch and all below it
  pub asks_past_branch : (p count : ℕ) (left rest : List TreeNode) → ((b a : Forest) → now a ≡ now (tree.branch p b a))
      → left ≡ Branch p count ∷ rest → Asks now whole nodes left → Asks now whole nodes (drop count rest)
  asks_past_branch p count left rest steps e l =
      let b = opens.branch l.forest p count rest (l.is ∙ e) in
      record { forest = b.after; is = b.rest; same = λ f h. steps b.below b.after ∙ ap now (sym b.is) ∙ l.same f h }

  -- into a branch: what stands below it is next
  pub asks_into_branch : ForestsJoin → (p count : ℕ) (left rest : List TreeNode) → ((b a : Forest) → now (joined b a) ≡ now (tree.branch p b a))
      → left ≡ Branch p count ∷ rest → Asks now whole nodes left → Asks now whole nodes rest
  asks_into_branch joins p count left rest steps e l =
      let b = opens.branch l.forest p count rest (l.is ∙ e) in
      record {
        forest = joined b.below b.after;
        is = joins.nodes b.below b.after ∙ ap (λ ns. ns ++ preorder b.after) b.inner ∙ ap (λ ns. take count rest ++ ns) b.rest
            ∙ take-append-drop count rest;
        same = λ f h. steps b.below b.after ∙ ap now (sym b.is) ∙ l.same f h;
      }

  -- what is asked, at a branch, at a leaf and at the end
  pub asked_at_branch : (p count : ℕ) (left rest : List TreeNode) → left ≡ Branch p count ∷ rest → Asks now whole nodes left
      → (value : List TreeNode → X) → ((b a : Forest) → value (preorder b) ≡ now (tree.branch p b a))
      → (f : Forest) → preorder f ≡ nodes → value (take count rest) ≡ whole f
  asked_at_branch p count left rest e l value is f h =
      let b = opens.branch l.forest p count rest (l.is ∙ e) in
      ap value (sym b.inner) ∙ is b.below b.after ∙ ap now (sym b.is) ∙ l.same f h

  pub asked_at_leaf : (token : ℕ) (left rest : List TreeNode) → left ≡ Leaf token ∷ rest → Asks now whole nodes left
      → (value : X) → ((a : Forest) → value ≡ now (tree.leaf token a)) → (f : Forest) → preorder f ≡ nodes → value ≡ whole f
  asked_at_leaf token left rest e l value is f h =
      let b = opens.leaf l.forest token rest (l.is ∙ e) in is b.after ∙ ap now (sym b.is) ∙ l.same f h

  pub asked_at_end : (left : List TreeNode) → left ≡ [] → Asks now whole nodes left → (f : Forest) → preorder f ≡ nodes → now tree.none ≡ whole f
  asked_at_end left e l f h = ap now (sym (opens.none l.forest (l.is ∙ e))) ∙ l.same f h

  pub count_fits : (p count : ℕ) (left rest : List TreeNode) → left ≡ Branch p count ∷ rest → Asks now whole nodes left → count ≤ length rest
  count_fits p count left rest e l = (opens.branch l.forest p count rest (l.is ∙ e)).within

-- ---- what is asked

-- the nodes below a child
abbrev pub child_nodes : ℕ → Forest → List TreeNode
child_nodes p f = preorder (tree.child (p ∷ []) f)

pub child_past : (p q : ℕ) (b a : Forest) → (p == q) ≡ false → child_nodes p a ≡ child_nodes p (tree.branch q b a)
child_past p q b a e = ap (λ (c : Bool). preorder (if c || false then b else tree.child (p ∷ []) a)) (sym e)

pub child_here : (p q : ℕ) (b a : Forest) → (p == q) ≡ true → preorder b ≡ child_nodes p (tree.branch q b a)
child_here p q b a e = ap (λ (c : Bool). preorder (if c || false then b else tree.child (p ∷ []) a)) (sym e)

pub leaf_past : (k token : ℕ) (a : Forest) → (k ≡ 0 → ⊥) → tree.leaf_at (k - 1) a ≡ tree.leaf_at k (tree.leaf token a)
leaf_past zero token a some = absurd (some refl)
leaf_past (suc k) token a some = let same : suc k - 1 ≡ k = omega arith in ap (λ n. tree.leaf_at n a) same

pub leaf_here : (k token : ℕ) (a : Forest) → k ≡ 0 → token ≡ tree.leaf_at k (tree.leaf token a)
leaf_here k token a e = ap (λ n. tree.leaf_at n (tree.leaf token a)) (sym e)

pub first_inside : ForestsJoin → (p : ℕ) (b a : Forest) → tree.first_token (joined b a) ≡ tree.first_token (tree.branch p b a)
first_inside joins p b a = ap (λ ks. get_or ks 0 0) (joins.tokens b a)
