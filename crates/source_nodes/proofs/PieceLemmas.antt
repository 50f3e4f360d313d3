-- How far a search for some productions among the nodes of a forest has come, and what it found.
use Rattle.std.proofs.Common.{◌≡◌, ℕ, ◌+◌, ◌≤◌, ◌<◌, zero, suc, List, [], ◌∷◌, ◌++◌, length, map, take, drop, ap, sym, ◌∙◌, refl, arith, length-drop, drop-drop, append-nil, get_or, slice_get}
use Rattle.std.specs.Prelude.{Bool, true, false, Some, if◌then◌else◌}
use Rattle.std.specs.List.{flat_map}
use Rattle.std.proofs.lemmas.List.{append_assoc, drop_all, drop_more, length-map, map-append, take-append-drop, take_all}
use Rattle.std.proofs.lemmas.Option.{slice_get_within, slice_get-get_or, get_or_from_slice_get}
use Rattle.ilasm_grammar.specs.declared.tree.TreeNode.{TreeNode}
use Rattle.ilasm_grammar.specs.declared.tree.TreeNode.TheVariants.{Branch, Leaf}
use Rattle.source_model.specs.Forest as tree
use Rattle.source_model.specs.Forest.{Forest, Part, part, preorder, parts, below_each, is_among, joined}
use Rattle.source_model.specs.Laws.{ForestOpens, ForestsJoin, OneForest}
use Rattle.source_nodes.specs.Pieces.{ArePieces, nodes_of, piece_of, written}
use Rattle.source_nodes.specs.Walk.{IsForest}
use Rattle.source_nodes.specs.declared.pieces.Piece.{Piece}

-- up to `at` these were found; what is left is a forest, and what is in it completes what is in the whole
pub record Gathered (nodes : List TreeNode) (sought : List ℕ) (at : ℕ) (found : List Piece) : Type 0 where
  pub left : Forest
  pub within : at ≤ length nodes
  pub is : preorder left ≡ drop at nodes
  pub finds : (f : Forest) → preorder f ≡ nodes → map (piece_of nodes) found ++ map written (parts sought left) ≡ map written (parts sought f)

module _ (one : OneForest) (opens : ForestOpens) (joins : ForestsJoin) (nodes : List TreeNode) (sought : List ℕ) where
  pub begin : IsForest nodes → Gathered nodes sought 0 []
  begin f = record {
    left = f.0;
    within = omega arith;
    is = f.1;
    finds = λ g e. ap (λ h. map written (parts sought h)) (one.one f.0 g (f.1 ∙ sym e));
  }

  -- what is left at a node begins with it
  from_node : (at : ℕ) (node : TreeNode) → slice_get nodes at ≡ Some node → drop at nodes ≡ node ∷ drop (at + 1) nodes
  from_node at node e =
      drop_more nodes at node (slice_get_within nodes at node e)
      ∙ ap (λ x. x ∷ drop (at + 1) nodes) (get_or_from_slice_get nodes at node node e)

  pub past_leaf : (at token : ℕ) (found : List Piece) → slice_get nodes at ≡ Some (Leaf token) → Gathered nodes sought at found → Gathered nodes sought (at + 1) found
  past_leaf at token found e l =
      let b = opens.leaf l.left token (drop (at + 1) nodes) (l.is ∙ from_node at (Leaf token) e) in
      let less = slice_get_within nodes at (Leaf token) e in
      record {
        left = b.after;
        within = omega (arith, less);
        is = b.rest;
        finds = λ f whole. ap (λ g. map (piece_of nodes) found ++ map written (parts sought g)) (sym b.is) ∙ l.finds f whole;
      }

  -- the parts of a branch: itself where it is sought, else those in it, and those after it
  parts_at : (q : ℕ) (b a : Forest) (c : Bool) → is_among sought q ≡ c
      → parts sought (tree.branch q b a) ≡ (if c then part q b ∷ [] else parts sought b) ++ parts sought a
  parts_at q b a c e = ap (λ (d : Bool). (if d then part q b ∷ [] else parts sought b) ++ parts sought a) e

  -- a branch of another production: what stands below it is next
  pub into_branch : (at q count : ℕ) (found : List Piece) → slice_get nodes at ≡ Some (Branch q count) → is_among sought q ≡ false
      → Gathered nodes sought at found → Gathered nodes sought (at + 1) found
  into_branch at q count found e differs l =
      let b = opens.branch l.left q count (drop (at + 1) nodes) (l.is ∙ from_node at (Branch q count) e) in
      let less = slice_get_within nodes at (Branch q count) e in
      let inside : parts sought (joined b.below b.after) ≡ parts sought l.left =
      joins.parts [] sought b.below b.after ∙ sym (parts_at q b.below b.after false differs) ∙ ap (parts sought) (sym b.is) in
      record {
        left = joined b.below b.after;
        within = omega (arith, less);
        is = joins.nodes b.below b.after ∙ ap (λ ns. ns ++ preorder b.after) b.inner ∙ ap (λ ns. take count (drop (at + 1) nodes) ++ ns) b.rest
            ∙ take-append-drop count (drop (at + 1) nodes);
        finds = λ f whole. ap (λ ps. map (piece_of nodes) found ++ map written ps) inside ∙ l.finds f whole;
      }

  -- one that is sought: it is found, and what stands after it is next
  pub past_branch : (at q count : ℕ) (found : List Piece) → slice_get nodes at ≡ Some (Branch q count) → is_among sought q ≡ true
      → Gathered nodes sought at found
      → Gathered nodes sought (at + 1 + count) (found ++ record { production = q; start = at + 1; count = count } ∷ [])
  past_branch at q count found e same l =
      let b = opens.branch l.left q count (drop (at + 1) nodes) (l.is ∙ from_node at (Branch q count) e) in
      let less = slice_get_within nodes at (Branch q count) e in
      let x : Piece = record { production = q; start = at + 1; count = count } in
      let inside : (q, preorder b.below) ∷ map written (parts sought b.after) ≡ map written (parts sought l.left) =
      ap (map written) (sym (parts_at q b.below b.after true same)) ∙ ap (λ g. map written (parts sought g)) (sym b.is) in
      record {
        left = b.after;
        within = omega (arith, less, b.within, length-drop (at + 1) nodes);
        is = b.rest ∙ drop-drop count (at + 1) nodes;
        finds = λ f whole.
            ap (λ ns. ns ++ map written (parts sought b.after)) (map-append (piece_of nodes) found (x ∷ []))
            ∙ append_assoc (map (piece_of nodes) found) (piece_of nodes x ∷ []) (map written (parts sought b.after))
            ∙ ap (λ n. map (piece_of nodes) found ++ ((q, n) ∷ map written (parts sought b.after))) (sym b.inner)
            ∙ ap (λ ns. map (piece_of nodes) found ++ ns) inside
            ∙ l.finds f whole;
      }

  -- at the end all are found
  pub gathered : (at : ℕ) (found : List Piece) → length nodes ≤ at → Gathered nodes sought at found
      → (f : Forest) → preorder f ≡ nodes → ArePieces nodes found (parts sought f)
  gathered at found over l f whole =
      let nothing : preorder l.left ≡ [] = l.is ∙ drop_all at nodes over in
      sym (ap (λ g. map (piece_of nodes) found ++ map written (parts sought g)) (opens.none l.left nothing) ∙ append-nil (map (piece_of nodes) found))
      ∙ l.finds f whole

-- ---- what was found, one by one

-- the part that a production in this place is
pub record PartAt (nodes : List TreeNode) (ps : List Part) (i : ℕ) (x : Piece) : Type 0 where
  pub of : Part
  pub at : slice_get ps i ≡ Some of
  pub production : x.production ≡ of.production
  pub below : preorder of.below ≡ nodes_of nodes x

pub part_at : (nodes : List TreeNode) (found : List Piece) (ps : List Part) (i : ℕ) (x : Piece) → ArePieces nodes found ps → slice_get found i ≡ Some x
    → PartAt nodes ps i x
part_at nodes [] ps i x e at = absurd cc
part_at nodes (y ∷ found) [] i x e at = absurd cc
part_at nodes (y ∷ found) (p ∷ ps) zero x e at = record {
  of = p;
  at = refl;
  production = ap (λ (z : Piece). z.production) same ∙ ap (λ (w : ℕ × List TreeNode). w.0) first;
  below = sym (ap (nodes_of nodes) same ∙ ap (λ (w : ℕ × List TreeNode). w.1) first);
}
  where
    same : x ≡ y
    same = cc

    first : piece_of nodes y ≡ written p
    first = cc
part_at nodes (y ∷ found) (p ∷ ps) (suc i) x e at =
    let rest : ArePieces nodes found ps = cc in
    let m = part_at nodes found ps i x rest at in
    record { of = m.of; at = m.at; production = m.production; below = m.below }

pub part_read : (nodes : List TreeNode) (found : List Piece) (ps : List Part) (i : ℕ) (d : Piece) → ArePieces nodes found ps → i < length found
    → PartAt nodes ps i (get_or found i d)
part_read nodes found ps i d e less = part_at nodes found ps i (get_or found i d) e (slice_get-get_or found i d less)

-- ---- what is collected of the parts, one by one

pub take_next : {X : Type 0} (xs : List X) (i : ℕ) (x : X) → slice_get xs i ≡ Some x → take (i + 1) xs ≡ take i xs ++ x ∷ []
take_next [] i x e = absurd cc
take_next (y ∷ ys) zero x e = let same : y ≡ x = cc in ap (λ z. z ∷ []) same
take_next (y ∷ ys) (suc i) x e =
    let next : suc i + 1 ≡ suc (i + 1) = omega arith in ap (λ k. take k (y ∷ ys)) next ∙ ap (λ zs. y ∷ zs) (take_next ys i x e)

pub map_next : {X Y : Type 0} (g : X → Y) (xs : List X) (i : ℕ) (x : X) (ys : List Y) → slice_get xs i ≡ Some x → ys ≡ map g (take i xs)
    → ys ++ g x ∷ [] ≡ map g (take (i + 1) xs)
map_next g xs i x ys at e =
    ap (λ zs. zs ++ g x ∷ []) e ∙ sym (map-append g (take i xs) (x ∷ [])) ∙ ap (map g) (sym (take_next xs i x at))

flat_push : {X Y : Type 0} (g : X → List Y) (xs : List X) (x : X) → flat_map g (xs ++ x ∷ []) ≡ flat_map g xs ++ g x
flat_push g [] x = append-nil (g x)
flat_push g (y ∷ ys) x = ap (λ zs. g y ++ zs) (flat_push g ys x) ∙ sym (append_assoc (g y) (flat_map g ys) (g x))

pub flat_next : {X Y : Type 0} (g : X → List Y) (xs : List X) (i : ℕ) (x : X) (before ys : List Y) → slice_get xs i ≡ Some x
    → ys ≡ before ++ flat_map g (take i xs) → ys ++ g x ≡ before ++ flat_map g (take (i + 1) xs)
flat_next g xs i x before ys at e =
    ap (λ zs. zs ++ g x) e ∙ append_assoc before (flat_map g (take i xs)) (g x)
    ∙ ap (λ zs. before ++ zs) (sym (flat_push g (take i xs) x) ∙ ap (flat_map g) (sym (take_next xs i x at)))

pub as_many : (nodes : List TreeNode) (found : List Piece) (ps : List Part) → ArePieces nodes found ps → length found ≡ length ps
as_many nodes found ps e = sym (length-map found (piece_of nodes)) ∙ ap length e ∙ length-map ps written

pub all_taken : (nodes : List TreeNode) (found : List Piece) (ps : List Part) (i : ℕ) → ArePieces nodes found ps → length found ≤ i → take i ps ≡ ps
all_taken nodes found ps i e over = take_all i ps (omega (arith, as_many nodes found ps e))

pub mapped_below : {Y : Type 0} (g : Forest → Y) (ps : List Part) → map (λ p. g p.below) ps ≡ map g (below_each ps)
mapped_below g [] = refl
mapped_below g (p ∷ ps) = ap (λ ys. g p.below ∷ ys) (mapped_below g ps)

pub collected_below : {Y : Type 0} (g : Forest → List Y) (ps : List Part) → flat_map (λ p. g p.below) ps ≡ flat_map g (below_each ps)
collected_below g [] = refl
collected_below g (p ∷ ps) = ap (λ ys. g p.below ++ ys) (collected_below g ps)
