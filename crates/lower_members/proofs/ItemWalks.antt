-- How far a walk over the items of a method has come, which blocks are open, and what it found.
use Rattle.std.proofs.Common.{◌≡◌, ℕ, ◌+◌, ◌-◌, ◌≤◌, ◌<◌, ◌⊎◌, inl, inr, zero, suc, List, [], ◌∷◌, ◌++◌, Option, None, Some, length, map, take, drop, refl, ap, sym, subst, ◌∙◌, arith, append-nil, append_assoc, drop-drop, length-append, length-drop, length-take}
use Rattle.std.specs.Prelude.{Bool, true, false, ◌==◌, ◌||◌, if◌then◌else◌, slice_get}
use Rattle.std.proofs.lemmas.Bool.{eqb-false, ne_eqb}
use Rattle.std.proofs.lemmas.Bool.Decides.{Decides-eqb}
use Rattle.std.proofs.lemmas.List.{drop-take, drop_all, drop_more, map-append, take-append-drop, take_at, take_rest}
use Rattle.std.proofs.lemmas.Option.{get_or_from_slice_get, same_Some, slice_get_cases, slice_get_within}
use Rattle.ilasm_grammar.specs.declared.productions.TheConstants.{BLOCK, ITEM_TRY}
use Rattle.ilasm_grammar.specs.declared.tree.TreeNode.{TreeNode}
use Rattle.ilasm_grammar.specs.declared.tree.TreeNode.TheVariants.{Branch, Leaf}
use Rattle.source_model.specs.Forest as tree
use Rattle.source_model.specs.Forest.{Forest, Part, is_among, joined, part, preorder}
use Rattle.source_model.specs.Items.{items_and_ends, plain_items}
use Rattle.source_model.specs.Laws.{BeginsWithBranch, ForestOpens, ForestsJoin, OneForest}
use Rattle.source_nodes.specs.Pieces.{ArePieces, piece_of, written}
use Rattle.source_nodes.specs.Walk.{IsForest}
use Rattle.source_nodes.specs.declared.pieces.Piece.{Piece}
use Rattle.lower_members.specs.ItemSteps.{branch_step, node_step, step_of, unrolled}
use Rattle.lower_members.specs.declared.item_walks.Open.{Open}
use Rattle.lower_members.specs.declared.item_walks.Step.{Step}
use Rattle.lower_members.specs.declared.item_walks.Step.TheVariants.{Block, Close, Item, Pass}

-- ---- items of two forests, and of a branch

pub items_joined : (b a : Forest) → items_and_ends (joined b a) ≡ items_and_ends b ++ items_and_ends a
items_joined tree.none a = refl
items_joined (tree.leaf k b) a = items_joined b a
items_joined (tree.branch p c b) a =
    ap (λ xs. own ++ xs) (items_joined b a) ∙ sym (append_assoc own (items_and_ends b) (items_and_ends a))
  where
    own : List Part
    own =
        if is_among plain_items p then part p c ∷ []
        else if p == ITEM_TRY || p == BLOCK then (part p tree.none ∷ items_and_ends c) ++ part p tree.none ∷ []
        else items_and_ends c

abbrev items_by : Bool → Bool → ℕ → Forest → Forest → List Part
items_by plain block p b a =
    (if plain then part p b ∷ [] else if block then (part p tree.none ∷ items_and_ends b) ++ part p tree.none ∷ [] else items_and_ends b) ++ items_and_ends a

plain_item : (p : ℕ) (b a : Forest) → is_among plain_items p ≡ true → items_and_ends (tree.branch p b a) ≡ part p b ∷ items_and_ends a
plain_item p b a e = ap (λ c. items_by c (p == ITEM_TRY || p == BLOCK) p b a) e

block_items : (p : ℕ) (b a : Forest) → is_among plain_items p ≡ false → (p == ITEM_TRY || p == BLOCK) ≡ true
    → items_and_ends (tree.branch p b a) ≡ part p tree.none ∷ (items_and_ends b ++ part p tree.none ∷ items_and_ends a)
block_items p b a e h =
    ap (λ c. items_by c (p == ITEM_TRY || p == BLOCK) p b a) e ∙ ap (λ c. items_by false c p b a) h
    ∙ append_assoc (part p tree.none ∷ items_and_ends b) (part p tree.none ∷ []) (items_and_ends a)

other_items : (p : ℕ) (b a : Forest) → is_among plain_items p ≡ false → (p == ITEM_TRY || p == BLOCK) ≡ false
    → items_and_ends (tree.branch p b a) ≡ items_and_ends (joined b a)
other_items p b a e h =
    ap (λ c. items_by c (p == ITEM_TRY || p == BLOCK) p b a) e ∙ ap (λ c. items_by false c p b a) h ∙ sym (items_joined b a)

-- ---- the front of a front

take_front : {X : Type 0} (n m : ℕ) (xs : List X) → n ≤ m → take n (take m xs) ≡ take n xs
take_front zero m xs h = refl
take_front (suc n) zero xs h = absurd (omega (arith, h))
take_front (suc n) (suc m) [] h = refl
take_front (suc n) (suc m) (x ∷ xs) h = ap (λ ys. x ∷ ys) (take_front n m xs (omega (arith, h)))

drop_front : {X : Type 0} (n m : ℕ) (xs : List X) → n ≤ m → drop n (take m xs) ≡ take (m - n) (drop n xs)
drop_front n m xs h = let same : m ≡ n + (m - n) = omega (arith, h) in ap (λ k. drop n (take k xs)) same ∙ drop-take n (m - n) xs

take_nothing : {X : Type 0} (n : ℕ) → take {A = X} n [] ≡ []
take_nothing zero = refl
take_nothing (suc n) = refl

-- ---- the nodes of a forest between two places

pub record Between (nodes : List TreeNode) (low high : ℕ) (f : Forest) : Type 0 where
  pub ordered : low ≤ high
  pub is : preorder f ≡ take (high - low) (drop low nodes)

-- where the innermost open block ends
abbrev pub limit : List TreeNode → List Open → ℕ
limit nodes [] = length nodes
limit nodes (o ∷ os) = o.end

-- the forests behind the ends of the open blocks, from the innermost outwards
abbrev pub Covers : List TreeNode → List Open → List Forest → Type 0
Covers nodes [] [] = Unit {0}
Covers nodes [] (g ∷ gs) = ⊥
Covers nodes (o ∷ os) [] = ⊥
Covers nodes (o ∷ os) (g ∷ gs) = Between nodes o.end (limit nodes os) g × Covers nodes os gs

-- what comes behind the innermost forest
abbrev pub rest_of : List Open → List Forest → List Part
rest_of [] gs = []
rest_of (o ∷ os) [] = []
rest_of (o ∷ os) (g ∷ gs) = part o.production tree.none ∷ (items_and_ends g ++ rest_of os gs)

-- how far the walk has come
pub record Walked (nodes : List TreeNode) (at : ℕ) (found : List Piece) (blocks : List Open) : Type 0 where
  pub stack : List Open
  pub forest : Forest
  pub behind : List Forest
  pub opens-are : blocks ≡ unrolled stack
  pub within : at ≤ length nodes
  pub here : Between nodes at (limit nodes stack) forest
  pub covers : Covers nodes stack behind
  pub finds : (h : Forest) → preorder h ≡ nodes
      → map (piece_of nodes) found ++ map written (items_and_ends forest ++ rest_of stack behind) ≡ map written (items_and_ends h)

-- one more piece was found
found_more : (nodes : List TreeNode) (found : List Piece) (x : Piece) (p : Part) (ps whole : List Part) → piece_of nodes x ≡ written p
    → map (piece_of nodes) found ++ map written (p ∷ ps) ≡ map written whole → map (piece_of nodes) (found ++ x ∷ []) ++ map written ps ≡ map written whole
found_more nodes found x p ps whole same e =
    ap (λ ws. ws ++ map written ps) (map-append (piece_of nodes) found (x ∷ []))
    ∙ append_assoc (map (piece_of nodes) found) (piece_of nodes x ∷ []) (map written ps)
    ∙ ap (λ w. map (piece_of nodes) found ++ w ∷ map written ps) same ∙ e

module _ (one : OneForest) (opens : ForestOpens) (joins : ForestsJoin) (nodes : List TreeNode) where
  pub begin : IsForest nodes → Walked nodes 0 [] []
  begin f = record {
    stack = [];
    forest = f.0;
    behind = [];
    opens-are = refl;
    within = omega arith;
    here = record { ordered = omega arith; is = f.1 ∙ sym (take_rest nodes 0) };
    covers = tt;
    finds = λ h e. ap (map written) (append-nil (items_and_ends f.0)) ∙ ap (λ g. map written (items_and_ends g)) (one.one f.0 h (f.1 ∙ sym e));
  }

  from_node : (at : ℕ) (node : TreeNode) → slice_get nodes at ≡ Some node → drop at nodes ≡ node ∷ drop (at + 1) nodes
  from_node at node e =
      drop_more nodes at node (slice_get_within nodes at node e)
      ∙ ap (λ x. x ∷ drop (at + 1) nodes) (get_or_from_slice_get nodes at node node e)

  -- a forest between two places begins with the node there
  first_node : (low high : ℕ) (f : Forest) (node : TreeNode) → low < high → slice_get nodes low ≡ Some node → Between nodes low high f
      → preorder f ≡ node ∷ take (high - (low + 1)) (drop (low + 1) nodes)
  first_node low high f node less e b =
      let more : high - low ≡ suc (high - (low + 1)) = omega (arith, less) in
      b.is ∙ ap (λ k. take k (drop low nodes)) more ∙ ap (take (suc (high - (low + 1)))) (from_node low node e)

  module _ (at : ℕ) (found : List Piece) (blocks : List Open) (w : Walked nodes at found blocks) (less : at < limit nodes w.stack) where
    abbrev high : ℕ
    high = limit nodes w.stack

    abbrev later : List TreeNode
    later = take (high - (at + 1)) (drop (at + 1) nodes)

    pub past_leaf : (token : ℕ) → slice_get nodes at ≡ Some (Leaf token) → Walked nodes (at + 1) found blocks
    past_leaf token e =
        let b = opens.leaf w.forest token later (first_node at high w.forest (Leaf token) less e w.here) in
        let in_nodes = slice_get_within nodes at (Leaf token) e in
        record {
          stack = w.stack;
          forest = b.after;
          behind = w.behind;
          opens-are = w.opens-are;
          within = omega (arith, in_nodes);
          here = record { ordered = omega (arith, less); is = b.rest };
          covers = w.covers;
          finds = λ h whole. ap (λ g. map (piece_of nodes) found ++ map written (items_and_ends g ++ rest_of w.stack w.behind)) (sym b.is) ∙ w.finds h whole;
        }

    module _ (p count : ℕ) (e : slice_get nodes at ≡ Some (Branch p count)) where
      abbrev b : BeginsWithBranch w.forest p count later
      b = opens.branch w.forest p count later (first_node at high w.forest (Branch p count) less e w.here)

      few : count ≤ high - (at + 1)
      few = let many = length-take (high - (at + 1)) (drop (at + 1) nodes) in let within = b.within in omega (arith, many, within)

      in_nodes : at < length nodes
      in_nodes = slice_get_within nodes at (Branch p count) e

      fits : at + 1 + count ≤ length nodes
      fits =
          let many = length-take (high - (at + 1)) (drop (at + 1) nodes) in
          let rest = length-drop (at + 1) nodes in
          let within = b.within in
          let low = in_nodes in
          omega (arith, many, rest, within, low)

      below_is : preorder b.below ≡ take count (drop (at + 1) nodes)
      below_is = b.inner ∙ take_front count (high - (at + 1)) (drop (at + 1) nodes) few

      after_is : preorder b.after ≡ take (high - (at + 1 + count)) (drop (at + 1 + count) nodes)
      after_is =
          let left : high - (at + 1) - count ≡ high - (at + 1 + count) = omega arith in
          b.rest ∙ drop_front count (high - (at + 1)) (drop (at + 1) nodes) few ∙ ap (λ k. take k (drop count (drop (at + 1) nodes))) left
          ∙ ap (take (high - (at + 1 + count))) (drop-drop count (at + 1) nodes)

      pub past_item : is_among plain_items p ≡ true → Walked nodes (at + 1 + count) (found ++ record { production = p; start = at + 1; count = count } ∷ []) blocks
      past_item plain =
          let enough = few in
          record {
            stack = w.stack;
            forest = b.after;
            behind = w.behind;
            opens-are = w.opens-are;
            within = fits;
            here = record { ordered = omega (arith, enough, less); is = after_is };
            covers = w.covers;
            finds = λ h whole.
                found_more nodes found (record { production = p; start = at + 1; count = count }) (part p b.below) (items_and_ends b.after ++ rest_of w.stack w.behind) (items_and_ends h)
                (ap (λ ns. (p, ns)) (sym below_is))
                (ap (λ xs. map (piece_of nodes) found ++ map written (xs ++ rest_of w.stack w.behind)) (sym (plain_item p b.below b.after plain))
                ∙ ap (λ g. map (piece_of nodes) found ++ map written (items_and_ends g ++ rest_of w.stack w.behind)) (sym b.is) ∙ w.finds h whole);
          }

      pub into_block : is_among plain_items p ≡ false → (p == ITEM_TRY || p == BLOCK) ≡ true
          → Walked nodes (at + 1) (found ++ record { production = p; start = at; count = 0 } ∷ []) (blocks ++ record { production = p; end = at + 1 + count } ∷ [])
      into_block plain block =
          let enough = few in
          let low = in_nodes in
          let inner : at + 1 + count - (at + 1) ≡ count = omega arith in
          record {
            stack = record { production = p; end = at + 1 + count } ∷ w.stack;
            forest = b.below;
            behind = b.after ∷ w.behind;
            opens-are = ap (λ os. os ++ record { production = p; end = at + 1 + count } ∷ []) w.opens-are;
            within = omega (arith, low);
            here = record { ordered = omega arith; is = below_is ∙ ap (λ k. take k (drop (at + 1) nodes)) (sym inner) };
            covers = (record { ordered = omega (arith, enough, less); is = after_is }, w.covers);
            finds = λ h whole.
                found_more nodes found (record { production = p; start = at; count = 0 }) (part p tree.none)
                (items_and_ends b.below ++ part p tree.none ∷ (items_and_ends b.after ++ rest_of w.stack w.behind)) (items_and_ends h) refl
                (ap (λ xs. map (piece_of nodes) found ++ map written (part p tree.none ∷ xs))
                (sym (append_assoc (items_and_ends b.below) (part p tree.none ∷ items_and_ends b.after) (rest_of w.stack w.behind)))
                ∙ ap (λ xs. map (piece_of nodes) found ++ map written (xs ++ rest_of w.stack w.behind)) (sym (block_items p b.below b.after plain block))
                ∙ ap (λ g. map (piece_of nodes) found ++ map written (items_and_ends g ++ rest_of w.stack w.behind)) (sym b.is) ∙ w.finds h whole);
          }

      pub into_other : is_among plain_items p ≡ false → (p == ITEM_TRY || p == BLOCK) ≡ false → Walked nodes (at + 1) found blocks
      into_other plain block =
          let low = in_nodes in
          record {
            stack = w.stack;
            forest = joined b.below b.after;
            behind = w.behind;
            opens-are = w.opens-are;
            within = omega (arith, low);
            here = record {
              ordered = omega (arith, less);
              is = joins.nodes b.below b.after ∙ ap (λ ns. ns ++ preorder b.after) b.inner ∙ ap (λ ns. take count later ++ ns) b.rest ∙ take-append-drop count later;
            };
            covers = w.covers;
            finds = λ h whole.
                ap (λ xs. map (piece_of nodes) found ++ map written (xs ++ rest_of w.stack w.behind)) (sym (other_items p b.below b.after plain block))
                ∙ ap (λ g. map (piece_of nodes) found ++ map written (items_and_ends g ++ rest_of w.stack w.behind)) (sym b.is) ∙ w.finds h whole;
          }

-- ---- the innermost of the open blocks

abbrev first_of : List Open → Option Open
first_of [] = None
first_of (o ∷ os) = Some o

last_get : (os : List Open) (o : Open) → slice_get (os ++ o ∷ []) (length os) ≡ Some o
last_get [] o = refl
last_get (x ∷ os) o = last_get os o

pub innermost_is : (stack : List Open) → slice_get (unrolled stack) (length (unrolled stack) - 1) ≡ first_of stack
innermost_is [] = refl
innermost_is (o ∷ os) =
    let many = length-append (unrolled os) (o ∷ []) in
    let place : length (unrolled os ++ o ∷ []) - 1 ≡ length (unrolled os) = omega (arith, many) in
    ap (slice_get (unrolled os ++ o ∷ [])) place ∙ last_get (unrolled os) o

module _ (nodes : List TreeNode) (at : ℕ) where
  pub step_open : (stack : List Open) (o : Open) → first_of stack ≡ Some o → (o.end ≡ at → ⊥) → node_step (slice_get nodes at) ≡ step_of nodes stack at
  step_open [] o e other = absurd cc
  step_open (q ∷ qs) o e other =
      let same : q ≡ o = same_Some q o e in
      sym (ap (λ (c : Bool). if c then Some (Close q.production) else node_step (slice_get nodes at)) (ne_eqb q.end at (λ h. other (ap (λ (x : Open). x.end) (sym same) ∙ h))))

  pub step_none : (stack : List Open) → first_of stack ≡ None → node_step (slice_get nodes at) ≡ step_of nodes stack at
  step_none [] e = refl
  step_none (q ∷ qs) e = absurd cc

-- ---- what a step says

-- no open block ends here
abbrev pub GoesOn : List Open → ℕ → Type 0
GoesOn [] at = Unit {0}
GoesOn (o ∷ os) at = o.end ≡ at → ⊥

pub record Closes (stack : List Open) (at : ℕ) (st : Step) : Type 0 where
  pub block : Open
  pub more : List Open
  pub is : stack ≡ block ∷ more
  pub ends : block.end ≡ at
  pub step : Close block.production ≡ st

step_is : (nodes : List TreeNode) (stack : List Open) (at : ℕ) (st : Step) → step_of nodes stack at ≡ Some st
    → Closes stack at st ⊎ (GoesOn stack at × (node_step (slice_get nodes at) ≡ Some st))
step_is nodes [] at st e = inr (tt, e)
step_is nodes (o ∷ os) at st e = go (o.end == at) refl
  where
    go : (c : Bool) → (o.end == at) ≡ c → Closes (o ∷ os) at st ⊎ ((o.end ≡ at → ⊥) × (node_step (slice_get nodes at) ≡ Some st))
    go true is =
        inl (record {
          block = o;
          more = os;
          is = refl;
          ends = (Decides-eqb o.end at).0 is;
          step = same_Some (Close o.production) st (sym (ap (λ (c : Bool). if c then Some (Close o.production) else node_step (slice_get nodes at)) is) ∙ e);
        })
    go false is = inr (eqb-false o.end at is, sym (ap (λ (c : Bool). if c then Some (Close o.production) else node_step (slice_get nodes at)) is) ∙ e)

pub record AtLeaf (o : Option TreeNode) (st : Step) : Type 0 where
  pub token : ℕ
  pub is : o ≡ Some (Leaf token)
  pub step : Pass ≡ st

pub record AtBranch (o : Option TreeNode) (st : Step) : Type 0 where
  pub production : ℕ
  pub count : ℕ
  pub is : o ≡ Some (Branch production count)
  pub step : branch_step production count ≡ st

node_is : (o : Option TreeNode) (st : Step) → node_step o ≡ Some st → AtLeaf o st ⊎ AtBranch o st
node_is None st e = absurd cc
node_is (Some (Leaf token)) st e = inl (record { token = token; is = refl; step = same_Some Pass st e })
node_is (Some (Branch p n)) st e = inr (record { production = p; count = n; is = refl; step = same_Some (branch_step p n) st e })

abbrev step_by : Bool → Bool → ℕ → ℕ → Step
step_by plain block p n = if plain then Item p n else if block then Block p n else Pass

-- which of the three it is
pub data Sort (p n : ℕ) (st : Step) : Type 0 where
  item : (is_among plain_items p ≡ true) → (Item p n ≡ st) → Sort p n st
  block : (is_among plain_items p ≡ false) → ((p == ITEM_TRY || p == BLOCK) ≡ true) → (Block p n ≡ st) → Sort p n st
  other : (is_among plain_items p ≡ false) → ((p == ITEM_TRY || p == BLOCK) ≡ false) → (Pass ≡ st) → Sort p n st

sort_of : (p n : ℕ) (st : Step) → branch_step p n ≡ st → Sort p n st
sort_of p n st e = go (is_among plain_items p) (p == ITEM_TRY || p == BLOCK) refl refl
  where
    go : (c d : Bool) → is_among plain_items p ≡ c → (p == ITEM_TRY || p == BLOCK) ≡ d → Sort p n st
    go true d is also = item is (sym (ap (λ x. step_by x (p == ITEM_TRY || p == BLOCK) p n) is) ∙ e)
    go false true is also = block is also (sym (ap (λ x. step_by x (p == ITEM_TRY || p == BLOCK) p n) is ∙ ap (λ x. step_by false x p n) also) ∙ e)
    go false false is also = other is also (sym (ap (λ x. step_by x (p == ITEM_TRY || p == BLOCK) p n) is ∙ ap (λ x. step_by false x p n) also) ∙ e)

-- ---- the walk, step by step

module _ (one : OneForest) (opens : ForestOpens) (joins : ForestsJoin) (nodes : List TreeNode) (at : ℕ) (found : List Piece) (blocks : List Open)
    (w : Walked nodes at found blocks) where
  ahead : (node : TreeNode) → GoesOn w.stack at → slice_get nodes at ≡ Some node → at < limit nodes w.stack
  ahead node on e = go w.stack on w.here.ordered
    where
      go : (stack : List Open) → GoesOn stack at → at ≤ limit nodes stack → at < limit nodes stack
      go [] h low = slice_get_within nodes at node e
      go (o ∷ os) h low = let differs : o.end ≡ at → ⊥ = h in omega (arith, low, differs)

  pub next_pass : step_of nodes w.stack at ≡ Some Pass → Walked nodes (at + 1) found blocks
  next_pass e = elim (step_is nodes w.stack at Pass e) [
    | inl c ↦ let wrong = c.step in absurd cc
    | inr g ↦ elim (node_is (slice_get nodes at) Pass g.1) [
      | inl l ↦ past_leaf one opens joins nodes at found blocks w (ahead (Leaf l.token) g.0 l.is) l.token l.is
      | inr b ↦ go b.production b.count b.is g.0 (sort_of b.production b.count Pass b.step)
    ]
  ]
    where
      go : (p n : ℕ) → slice_get nodes at ≡ Some (Branch p n) → GoesOn w.stack at → Sort p n Pass → Walked nodes (at + 1) found blocks
      go p n is on (item plain step) = absurd cc
      go p n is on (block plain sort step) = absurd cc
      go p n is on (other plain sort step) = into_other one opens joins nodes at found blocks w (ahead (Branch p n) on is) p n is plain sort

  pub next_item : (p n : ℕ) → step_of nodes w.stack at ≡ Some (Item p n) → Walked nodes (at + 1 + n) (found ++ record { production = p; start = at + 1; count = n } ∷ []) blocks
  next_item p n e = elim (step_is nodes w.stack at (Item p n) e) [
    | inl c ↦ let wrong = c.step in absurd cc
    | inr g ↦ elim (node_is (slice_get nodes at) (Item p n) g.1) [
      | inl l ↦ let wrong = l.step in absurd cc
      | inr b ↦ go b.production b.count b.is g.0 (sort_of b.production b.count (Item p n) b.step)
    ]
  ]
    where
      go : (q m : ℕ) → slice_get nodes at ≡ Some (Branch q m) → GoesOn w.stack at → Sort q m (Item p n)
          → Walked nodes (at + 1 + n) (found ++ record { production = p; start = at + 1; count = n } ∷ []) blocks
      go q m is on (item plain step) =
          let made : q ≡ p = cc in
          let many : m ≡ n = cc in
          subst (λ k. Walked nodes (at + 1 + k) (found ++ record { production = p; start = at + 1; count = k } ∷ []) blocks) many
          (subst (λ r. Walked nodes (at + 1 + m) (found ++ record { production = r; start = at + 1; count = m } ∷ []) blocks) made
          (past_item one opens joins nodes at found blocks w (ahead (Branch q m) on is) q m is plain))
      go q m is on (block plain sort step) = absurd cc
      go q m is on (other plain sort step) = absurd cc

  pub next_block : (p n : ℕ) → step_of nodes w.stack at ≡ Some (Block p n)
      → Walked nodes (at + 1) (found ++ record { production = p; start = at; count = 0 } ∷ []) (blocks ++ record { production = p; end = at + 1 + n } ∷ [])
  next_block p n e = elim (step_is nodes w.stack at (Block p n) e) [
    | inl c ↦ let wrong = c.step in absurd cc
    | inr g ↦ elim (node_is (slice_get nodes at) (Block p n) g.1) [
      | inl l ↦ let wrong = l.step in absurd cc
      | inr b ↦ go b.production b.count b.is g.0 (sort_of b.production b.count (Block p n) b.step)
    ]
  ]
    where
      go : (q m : ℕ) → slice_get nodes at ≡ Some (Branch q m) → GoesOn w.stack at → Sort q m (Block p n)
          → Walked nodes (at + 1) (found ++ record { production = p; start = at; count = 0 } ∷ []) (blocks ++ record { production = p; end = at + 1 + n } ∷ [])
      go q m is on (item plain step) = absurd cc
      go q m is on (block plain sort step) =
          let made : q ≡ p = cc in
          let many : m ≡ n = cc in
          subst (λ k. Walked nodes (at + 1) (found ++ record { production = p; start = at; count = 0 } ∷ []) (blocks ++ record { production = p; end = at + 1 + k } ∷ [])) many
          (subst (λ r. Walked nodes (at + 1) (found ++ record { production = r; start = at; count = 0 } ∷ []) (blocks ++ record { production = r; end = at + 1 + m } ∷ [])) made
          (into_block one opens joins nodes at found blocks w (ahead (Branch q m) on is) q m is plain sort))
      go q m is on (other plain sort step) = absurd cc

  close_at : (p : ℕ) (fewer : List Open) → fewer ≡ take (length blocks - 1) blocks → (stack : List Open) (f : Forest) (gs : List Forest) → blocks ≡ unrolled stack
      → Between nodes at (limit nodes stack) f → Covers nodes stack gs
      → ((h : Forest) → preorder h ≡ nodes → map (piece_of nodes) found ++ map written (items_and_ends f ++ rest_of stack gs) ≡ map written (items_and_ends h))
      → Closes stack at (Close p) → Walked nodes at (found ++ record { production = p; start = at; count = 0 } ∷ []) fewer
  close_at p fewer less [] f gs are here covers finds c = let wrong = c.is in absurd cc
  close_at p fewer less (q ∷ qs) f [] are here covers finds c = absurd covers
  close_at p fewer less (q ∷ qs) f (g ∷ gs) are here covers finds c =
      let head : c.block ≡ q = cc in
      let ends : q.end ≡ at = ap (λ (x : Open). x.end) (sym head) ∙ c.ends in
      let kind : Close c.block.production ≡ Close p = c.step in
      let kind_is : c.block.production ≡ p = cc in
      let made : q.production ≡ p = ap (λ (x : Open). x.production) (sym head) ∙ kind_is in
      let nothing : q.end - at ≡ 0 = omega (arith, ends) in
      let empty : f ≡ tree.none = opens.none f (here.is ∙ ap (λ k. take k (drop at nodes)) nothing) in
      let many = length-append (unrolled qs) (q ∷ []) in
      let place : length (unrolled qs ++ q ∷ []) - 1 ≡ length (unrolled qs) = omega (arith, many) in
      record {
        stack = qs;
        forest = g;
        behind = gs;
        opens-are = less ∙ ap (λ os. take (length os - 1) os) are ∙ ap (λ k. take k (unrolled qs ++ q ∷ [])) place ∙ take_at (unrolled qs) (q ∷ []) (length (unrolled qs)) refl;
        within = w.within;
        here = subst (λ k. Between nodes k (limit nodes qs) g) ends covers.0;
        covers = covers.1;
        finds = λ h whole.
            found_more nodes found (record { production = p; start = at; count = 0 }) (part p tree.none) (items_and_ends g ++ rest_of qs gs) (items_and_ends h) refl
            (ap (λ r. map (piece_of nodes) found ++ map written (part r tree.none ∷ (items_and_ends g ++ rest_of qs gs))) (sym made)
            ∙ ap (λ e. map (piece_of nodes) found ++ map written (items_and_ends e ++ rest_of (q ∷ qs) (g ∷ gs))) (sym empty) ∙ finds h whole);
      }

  pub next_close : (p : ℕ) (fewer : List Open) → step_of nodes w.stack at ≡ Some (Close p) → fewer ≡ take (length blocks - 1) blocks
      → Walked nodes at (found ++ record { production = p; start = at; count = 0 } ∷ []) fewer
  next_close p fewer e less = elim (step_is nodes w.stack at (Close p) e) [
    | inl c ↦ close_at p fewer less w.stack w.forest w.behind w.opens-are w.here w.covers w.finds c
    | inr g ↦ elim (node_is (slice_get nodes at) (Close p) g.1) [
      | inl l ↦ let wrong = l.step in absurd cc
      | inr b ↦ absurd (never b.production b.count (sort_of b.production b.count (Close p) b.step))
    ]
  ]
    where
      never : (q m : ℕ) → Sort q m (Close p) → ⊥
      never q m (item plain step) = cc
      never q m (block plain sort step) = cc
      never q m (other plain sort step) = cc

  -- where a block is closed one is open
  pub some_open : (p : ℕ) → step_of nodes w.stack at ≡ Some (Close p) → 0 < length blocks
  some_open p e = elim (step_is nodes w.stack at (Close p) e) [
    | inl c ↦
        let many = length-append (unrolled c.more) (c.block ∷ []) in
        let are : length blocks ≡ length (unrolled c.more ++ c.block ∷ []) = ap length w.opens-are ∙ ap (λ os. length (unrolled os)) c.is in
        omega (arith, are, many)
    | inr g ↦ elim (node_is (slice_get nodes at) (Close p) g.1) [
      | inl l ↦ let wrong = l.step in absurd cc
      | inr b ↦ absurd (never b.production b.count (sort_of b.production b.count (Close p) b.step))
    ]
  ]
    where
      never : (q m : ℕ) → Sort q m (Close p) → ⊥
      never q m (item plain step) = cc
      never q m (block plain sort step) = cc
      never q m (other plain sort step) = cc

  limit_within : (stack : List Open) (gs : List Forest) → Covers nodes stack gs → limit nodes stack ≤ length nodes
  limit_within [] gs c = omega arith
  limit_within (o ∷ os) [] c = absurd c
  limit_within (o ∷ os) (g ∷ gs) c = let further = limit_within os gs c.1 in let low = c.0.ordered in omega (arith, further, low)

  no_node : (o : Option TreeNode) → node_step o ≡ None → o ≡ None
  no_node None e = refl
  no_node (Some (Leaf token)) e = absurd cc
  no_node (Some (Branch p n)) e = absurd cc

  past_all : slice_get nodes at ≡ None → length nodes ≤ at
  past_all e = elim (slice_get_cases nodes at).1 [
    | inl h ↦ let some = h.2 in absurd cc
    | inr h ↦ h.0
  ]

  end_at : (stack : List Open) (f : Forest) (gs : List Forest) → Between nodes at (limit nodes stack) f → Covers nodes stack gs → step_of nodes stack at ≡ None
      → (items_and_ends f ++ rest_of stack gs) ≡ []
  end_at [] f (g ∷ gs) here covers e = absurd covers
  end_at [] f [] here covers e =
      let over = past_all (no_node (slice_get nodes at) e) in
      let nothing : preorder f ≡ [] = here.is ∙ ap (take (length nodes - at)) (drop_all at nodes over) ∙ take_nothing (length nodes - at) in
      ap (λ g. items_and_ends g ++ []) (opens.none f nothing)
  end_at (o ∷ os) f gs here covers e = go (o.end == at) refl
    where
      go : (c : Bool) → (o.end == at) ≡ c → (items_and_ends f ++ rest_of (o ∷ os) gs) ≡ []
      go true is = let wrong = sym (ap (λ (c : Bool). if c then Some (Close o.production) else node_step (slice_get nodes at)) is) ∙ e in absurd cc
      go false is =
          let none_here = no_node (slice_get nodes at) (sym (ap (λ (c : Bool). if c then Some (Close o.production) else node_step (slice_get nodes at)) is) ∙ e) in
          let over = past_all none_here in
          let low = limit_within (o ∷ os) gs covers in
          let ordered = here.ordered in
          let differs = eqb-false o.end at is in
          absurd (differs (omega (arith, over, low, ordered)))

  pub walk_end : step_of nodes w.stack at ≡ None → (h : Forest) → preorder h ≡ nodes → ArePieces nodes found (items_and_ends h)
  walk_end e h whole =
      sym (ap (λ ps. map (piece_of nodes) found ++ map written ps) (end_at w.stack w.forest w.behind w.here w.covers e) ∙ append-nil (map (piece_of nodes) found))
      ∙ w.finds h whole

pub grows : (blocks more : List Open) (o : Open) → more ≡ blocks ++ o ∷ [] → length more ≡ length blocks + 1
grows blocks more o e = ap length e ∙ length-append blocks (o ∷ [])
