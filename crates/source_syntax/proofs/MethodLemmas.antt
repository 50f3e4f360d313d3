-- The methods of a source, and what their derivation says of each.
use Rattle.std.proofs.Common.{◌≡◌, ℕ, zero, suc, ◌+◌, ◌≤◌, List, [], ◌∷◌, ◌++◌, length, map, take, drop, ap, sym, subst, ◌∙◌, refl, arith, append_assoc, append-nil, slice_get}
use Rattle.std.specs.Prelude.{Bool, true, false, ◌==◌, ◌||◌, Option, None, Some, if◌then◌else◌}
use Rattle.std.specs.List.{AllByRecursion, flat_map}
use Rattle.std.proofs.lemmas.List.{drop_all, drop_more, length-map, map-append, take-append-drop}
use Rattle.std.proofs.lemmas.Option.{slice_get_within, get_or_from_slice_get}
use Rattle.ilasm_grammar.specs.declared.productions.TheConstants.{METHOD}
use Rattle.ilasm_grammar.specs.declared.tree.TreeNode.{TreeNode}
use Rattle.ilasm_grammar.specs.declared.tree.TreeNode.TheVariants.{Branch, Leaf}
use Rattle.source_model.specs.BodyFaults.{all_methods}
use Rattle.source_model.specs.Forest as tree
use Rattle.source_model.specs.Forest.{Forest, preorder, is_among, joined, tokens_of}
use Rattle.source_model.specs.Laws.{ForestOpens, ForestsJoin, OneForest}
use Rattle.source_model.specs.Nodes.{Around, Node, entered, nodes, nodes_in, nodes_of, nothing_around}
use Rattle.source_model.specs.Source.{Source}
use Rattle.source_model.specs.TokenOrder.{numbers_from, TokensStandInOrder}
use Rattle.source_nodes.specs.Derived.{HasBodies, DerivationsHaveBodies}
use Rattle.source_nodes.specs.Least.{least, sooner}
use Rattle.source_syntax.specs.Methods.{all_below, AreBelow, IsDerived, IsMethod}
use Rattle.source_nodes.specs.Pieces as piece
use Rattle.source_nodes.specs.Readers.{Reads}
use Rattle.source_nodes.specs.Walk.{IsForest}
use Rattle.source_nodes.specs.declared.pieces.Piece.{Piece}
use Rattle.source_nodes.specs.declared.reader.Reader.{Reader}
use Rattle.source_syntax.proofs.LeastLemmas.{least_append, sooner_assoc}
use Rattle.source_syntax.proofs.LabelTokens.{all_append, one_of}

-- ---- all branches of a production

pub below_joined : (p : ℕ) (f g : Forest) → all_below p (joined f g) ≡ all_below p f ++ all_below p g
below_joined p tree.none g = refl
below_joined p (tree.leaf k a) g = below_joined p a g
below_joined p (tree.branch q b a) g =
    let own : List Forest = if p == q then b ∷ [] else [] in
    ap (λ fs. own ++ (all_below p b ++ fs)) (below_joined p a g)
    ∙ ap (λ fs. own ++ fs) (sym (append_assoc (all_below p b) (all_below p a) (all_below p g)))
    ∙ sym (append_assoc own (all_below p b ++ all_below p a) (all_below p g))

-- up to `at` these were found; what is left is a forest, and what is in it completes what is in the whole
pub record Reached (nodes : List TreeNode) (p at : ℕ) (found : List Piece) : Type 0 where
  pub left : Forest
  pub within : at ≤ length nodes
  pub is : preorder left ≡ drop at nodes
  pub finds : (f : Forest) → preorder f ≡ nodes
      → map (piece.nodes_of nodes) found ++ map preorder (all_below p left) ≡ map preorder (all_below p f)

module _ (one : OneForest) (opens : ForestOpens) (joins : ForestsJoin) (nodes : List TreeNode) (p : ℕ) where
  pub begin : IsForest nodes → Reached nodes p 0 []
  begin f = record {
    left = f.0;
    within = omega arith;
    is = f.1;
    finds = λ g e. ap (λ h. map preorder (all_below p h)) (one.one f.0 g (f.1 ∙ sym e));
  }

  -- what is left at a node begins with it
  from_node : (at : ℕ) (node : TreeNode) → slice_get nodes at ≡ Some node → drop at nodes ≡ node ∷ drop (at + 1) nodes
  from_node at node e =
      drop_more nodes at node (slice_get_within nodes at node e)
      ∙ ap (λ x. x ∷ drop (at + 1) nodes) (get_or_from_slice_get nodes at node node e)

  pub past_leaf : (at token : ℕ) (found : List Piece) → slice_get nodes at ≡ Some (Leaf token) → Reached nodes p at found → Reached nodes p (at + 1) found
  past_leaf at token found e l =
      let b = opens.leaf l.left token (drop (at + 1) nodes) (l.is ∙ from_node at (Leaf token) e) in
      let less = slice_get_within nodes at (Leaf token) e in
      record {
        left = b.after;
        within = omega (arith, less);
        is = b.rest;
        finds = λ f whole. ap (λ g. map (piece.nodes_of nodes) found ++ map preorder (all_below p g)) (sym b.is) ∙ l.finds f whole;
      }

  -- into a branch, with what it is itself
  pub into : (at q count : ℕ) (found more : List Piece) (own : Bool) → slice_get nodes at ≡ Some (Branch q count) → (p == q) ≡ own
      → ((b : Forest) → preorder b ≡ take count (drop (at + 1) nodes) → map (piece.nodes_of nodes) more ≡ map preorder (if own then b ∷ [] else []))
      → Reached nodes p at found → Reached nodes p (at + 1) (found ++ more)
  into at q count found more own e is takes l =
      let b = opens.branch l.left q count (drop (at + 1) nodes) (l.is ∙ from_node at (Branch q count) e) in
      let less = slice_get_within nodes at (Branch q count) e in
      let inner = all_below p (joined b.below b.after) in
      let self : Bool → List Forest = λ (c : Bool). if c then b.below ∷ [] else [] in
      let whole_is : self own ++ inner ≡ all_below p l.left =
      ap (λ fs. self own ++ fs) (below_joined p b.below b.after) ∙ ap (λ c. self c ++ (all_below p b.below ++ all_below p b.after)) (sym is)
      ∙ ap (all_below p) (sym b.is) in
      record {
        left = joined b.below b.after;
        within = omega (arith, less);
        is = joins.nodes b.below b.after ∙ ap (λ ns. ns ++ preorder b.after) b.inner ∙ ap (λ ns. take count (drop (at + 1) nodes) ++ ns) b.rest
            ∙ take-append-drop count (drop (at + 1) nodes);
        finds = λ f whole.
            ap (λ ns. ns ++ map preorder inner) (map-append (piece.nodes_of nodes) found more)
            ∙ append_assoc (map (piece.nodes_of nodes) found) (map (piece.nodes_of nodes) more) (map preorder inner)
            ∙ ap (λ ns. map (piece.nodes_of nodes) found ++ (ns ++ map preorder inner)) (takes b.below b.inner)
            ∙ ap (λ ns. map (piece.nodes_of nodes) found ++ ns) (sym (map-append preorder (self own) inner) ∙ ap (map preorder) whole_is)
            ∙ l.finds f whole;
      }

  -- at the end all are found
  pub reached : (at : ℕ) (found : List Piece) → length nodes ≤ at → Reached nodes p at found
      → (f : Forest) → preorder f ≡ nodes → AreBelow nodes found (all_below p f)
  reached at found over l f whole =
      let nothing : preorder l.left ≡ [] = l.is ∙ drop_all at nodes over in
      sym (ap (λ g. map (piece.nodes_of nodes) found ++ map preorder (all_below p g)) (opens.none l.left nothing) ∙ append-nil (map (piece.nodes_of nodes) found))
      ∙ l.finds f whole

-- ---- the methods of a source

abbrev below_of : List Node → List Forest
below_of ns = map (λ n. n.below) ns

chosen_append : (p : ℕ) (ms ns : List Node) → below_of (nodes_of (p ∷ []) (ms ++ ns)) ≡ below_of (nodes_of (p ∷ []) ms) ++ below_of (nodes_of (p ∷ []) ns)
chosen_append p [] ns = refl
chosen_append p (m ∷ ms) ns = go (is_among (p ∷ []) m.production) (chosen_append p ms ns)
  where
    go : (c : Bool) → below_of (nodes_of (p ∷ []) (ms ++ ns)) ≡ below_of (nodes_of (p ∷ []) ms) ++ below_of (nodes_of (p ∷ []) ns)
        → below_of (if c then m ∷ nodes_of (p ∷ []) (ms ++ ns) else nodes_of (p ∷ []) (ms ++ ns))
        ≡ below_of (if c then m ∷ nodes_of (p ∷ []) ms else nodes_of (p ∷ []) ms) ++ below_of (nodes_of (p ∷ []) ns)
    go true rest = ap (λ fs. m.below ∷ fs) rest
    go false rest = rest

pub nodes_below_are : (s : Source) (p : ℕ) (f : Forest) (a : Around) → below_of (nodes_of (p ∷ []) (nodes_in s a f)) ≡ all_below p f
nodes_below_are s p tree.none a = refl
nodes_below_are s p (tree.leaf k f) a = nodes_below_are s p f a
nodes_below_are s p (tree.branch q b f) a =
    let e = entered s a q b in
    let n : Node = record { production = q; below = b; around = e } in
    let own : List Forest = if p == q then b ∷ [] else [] in
    let inner = nodes_of (p ∷ []) (nodes_in s e b) in
    let rest = nodes_of (p ∷ []) (nodes_in s a f) in
    chosen_append p (n ∷ nodes_in s e b) (nodes_in s a f)
    ∙ ap (λ fs. fs ++ below_of rest) (decided n inner (p == q))
    ∙ append_assoc own (below_of inner) (below_of rest)
    ∙ ap (λ fs. own ++ (fs ++ below_of rest)) (nodes_below_are s p b e)
    ∙ ap (λ fs. own ++ (all_below p b ++ fs)) (nodes_below_are s p f a)
  where
    decided : (n : Node) (ms : List Node) (c : Bool) → below_of (if c || false then n ∷ ms else ms) ≡ (if c then n.below ∷ [] else []) ++ below_of ms
    decided n ms true = refl
    decided n ms false = refl

pub methods_below : (s : Source) → below_of (all_methods s) ≡ all_below METHOD s.tree
unfolding nodes
methods_below s = nodes_below_are s METHOD s.tree nothing_around

-- ---- tokens that follow one another

pub front_run : (xs ys : List ℕ) (at count : ℕ) → xs ++ ys ≡ numbers_from at count → xs ≡ numbers_from at (length xs)
front_run [] ys at count e = refl
front_run (x ∷ xs) ys at zero e = absurd cc
front_run (x ∷ xs) ys at (suc count) e =
    let first : x ≡ at = cc in
    let rest : xs ++ ys ≡ numbers_from (suc at) count = cc in
    ap (λ k. k ∷ xs) first ∙ ap (λ zs. at ∷ zs) (front_run xs ys (suc at) count rest)

pub back_run : (xs ys : List ℕ) (at count : ℕ) → xs ++ ys ≡ numbers_from at count → (first : ℕ) × (more : ℕ) × (ys ≡ numbers_from first more)
back_run [] ys at count e = (at, count, e)
back_run (x ∷ xs) ys at zero e = absurd cc
back_run (x ∷ xs) ys at (suc count) e = let rest : xs ++ ys ≡ numbers_from (suc at) count = cc in back_run xs ys (suc at) count rest

-- ---- what the derivation says of each production

pub nodes_derived : (s : Source) (f : Forest) (a : Around) (at count : ℕ) → HasBodies s f → tokens_of f ≡ numbers_from at count
    → AllByRecursion (λ n. IsDerived s n.production n.below) (nodes_in s a f)
nodes_derived s tree.none a at count h e = tt
nodes_derived s (tree.leaf k f) a at count h e =
    let r = back_run (k ∷ []) (tokens_of f) at count e in nodes_derived s f a r.0 r.1 h r.2
nodes_derived s (tree.branch q b f) a at count h e =
    let front = front_run (tokens_of b) (tokens_of f) at count e in
    let back = back_run (tokens_of b) (tokens_of f) at count e in
    let around = entered s a q b in
    let n : Node = record { production = q; below = b; around = around } in
    let own : IsDerived s q b = record { fits = h.0; bodies = h.1; first = at; count = length (tokens_of b); in-order = front } in
    all_append (λ m. IsDerived s m.production m.below) (n ∷ nodes_in s around b) (nodes_in s a f)
    (own, nodes_derived s b around at (length (tokens_of b)) h.1 front) (nodes_derived s f a back.0 back.1 h.2 back.2)

pub chosen_derived : (s : Source) (p : ℕ) (ns : List Node) → AllByRecursion (λ n. IsDerived s n.production n.below) ns
    → AllByRecursion (λ n. IsDerived s p n.below) (nodes_of (p ∷ []) ns)
chosen_derived s p [] h = tt
chosen_derived s p (n ∷ ns) h = go (is_among (p ∷ []) n.production) refl (chosen_derived s p ns h.1)
  where
    go : (c : Bool) → is_among (p ∷ []) n.production ≡ c → AllByRecursion (λ m. IsDerived s p m.below) (nodes_of (p ∷ []) ns)
        → AllByRecursion (λ m. IsDerived s p m.below) (if c then n ∷ nodes_of (p ∷ []) ns else nodes_of (p ∷ []) ns)
    go true e rest = (subst (λ q. IsDerived s q n.below) (sym (one_of p n.production e)) h.0, rest)
    go false e rest = rest

pub methods_derived : DerivationsHaveBodies → TokensStandInOrder → (r : Reader) (s : Source) → Reads r s → AllByRecursion (IsMethod s) (all_methods s)
unfolding nodes
methods_derived bodies order r s h =
    chosen_derived s METHOD (nodes_in s nothing_around s.tree)
    (nodes_derived s s.tree nothing_around 0 _ (bodies s h.derived).1 (order.consecutive _ 0 _ _ (preorder s.tree) s.tree h.derived refl))

-- ---- one by one

pub all_at : {X : Type 0} (P : X → Type 0) (xs : List X) (i : ℕ) (x : X) → AllByRecursion P xs → slice_get xs i ≡ Some x → P x
all_at P [] i x h at = absurd cc
all_at P (y ∷ ys) zero x h at = let same : y ≡ x = cc in subst P same h.0
all_at P (y ∷ ys) (suc i) x h at = all_at P ys i x h.1 at

pub record ForestAt (nodes : List TreeNode) (fs : List Forest) (i : ℕ) (x : Piece) : Type 0 where
  pub of : Forest
  pub at : slice_get fs i ≡ Some of
  pub below : preorder of ≡ piece.nodes_of nodes x

pub forest_at : (nodes : List TreeNode) (found : List Piece) (fs : List Forest) (i : ℕ) (x : Piece) → AreBelow nodes found fs → slice_get found i ≡ Some x
    → ForestAt nodes fs i x
forest_at nodes [] fs i x e at = absurd cc
forest_at nodes (y ∷ found) [] i x e at = absurd cc
forest_at nodes (y ∷ found) (f ∷ fs) zero x e at =
    let same : y ≡ x = cc in
    let own : piece.nodes_of nodes y ≡ preorder f = cc in
    record { of = f; at = refl; below = sym own ∙ ap (piece.nodes_of nodes) same }
forest_at nodes (y ∷ found) (f ∷ fs) (suc i) x e at =
    let rest : AreBelow nodes found fs = cc in
    let m = forest_at nodes found fs i x rest at in
    record { of = m.of; at = m.at; below = m.below }

mapped_at : (ns : List Node) (i : ℕ) (f : Forest) → slice_get (below_of ns) i ≡ Some f → (n : Node) × (slice_get ns i ≡ Some n) × (n.below ≡ f)
mapped_at [] i f e = absurd cc
mapped_at (n ∷ ns) zero f e = (n, refl, cc)
mapped_at (n ∷ ns) (suc i) f e = mapped_at ns i f e

pub record MethodAt (nodes : List TreeNode) (ms : List Node) (i : ℕ) (x : Piece) : Type 0 where
  pub of : Node
  pub at : slice_get ms i ≡ Some of
  pub below : preorder of.below ≡ piece.nodes_of nodes x

pub method_at : (nodes : List TreeNode) (found : List Piece) (s : Source) (i : ℕ) (x : Piece) → AreBelow nodes found (all_below METHOD s.tree) → slice_get found i ≡ Some x
    → MethodAt nodes (all_methods s) i x
method_at nodes found s i x e at =
    let m = forest_at nodes found (below_of (all_methods s)) i x (e ∙ ap (map preorder) (sym (methods_below s))) at in
    let n = mapped_at (all_methods s) i m.of m.at in
    record { of = n.0; at = n.1; below = ap preorder n.2 ∙ m.below }

-- ---- what was found, and what the methods that are left have

pub nothing_more : (found : Option ℕ) → found ≡ sooner found None
nothing_more None = refl
nothing_more (Some k) = refl

pub drop_at : {X : Type 0} (xs : List X) (i : ℕ) (x : X) → slice_get xs i ≡ Some x → drop i xs ≡ x ∷ drop (i + 1) xs
drop_at xs i x e = drop_more xs i x (slice_get_within xs i x e) ∙ ap (λ y. y ∷ drop (i + 1) xs) (get_or_from_slice_get xs i x x e)

pub one_more : {X : Type 0} (broken : X → List ℕ) (xs : List X) (i : ℕ) (x : X) (found here : Option ℕ) → slice_get xs i ≡ Some x → here ≡ least (broken x)
    → sooner (sooner found here) (least (flat_map broken (drop (i + 1) xs))) ≡ sooner found (least (flat_map broken (drop i xs)))
one_more broken xs i x found here at is =
    let rest = flat_map broken (drop (i + 1) xs) in
    sooner_assoc found here (least rest) ∙ ap (λ o. sooner found (sooner o (least rest))) is
    ∙ ap (sooner found) (sym (least_append (broken x) rest))
    ∙ ap (λ ys. sooner found (least (flat_map broken ys))) (sym (drop_at xs i x at))

pub nothing_left : {X : Type 0} (broken : X → List ℕ) (xs : List X) (i : ℕ) (found : Option ℕ) → length xs ≤ i
    → found ≡ sooner found (least (flat_map broken (drop i xs)))
nothing_left broken xs i found over =
    let none = drop_all i xs over in
    nothing_more found ∙ ap (λ ys. sooner found (least (flat_map broken ys))) (sym none)

pub as_many : (nodes : List TreeNode) (found : List Piece) (s : Source) → AreBelow nodes found (all_below METHOD s.tree) → length found ≡ length (all_methods s)
as_many nodes found s e =
    sym (length-map found (piece.nodes_of nodes)) ∙ ap length (e ∙ ap (map preorder) (sym (methods_below s)))
    ∙ length-map (below_of (all_methods s)) preorder ∙ length-map (all_methods s) (λ (n : Node). n.below)
