-- The counts that are made from a derivation's nodes are its own.
use Rattle.std.proofs.Common.{◌≡◌, ℕ, zero, suc, ◌+◌, ◌≤◌, List, [], ◌∷◌, ◌++◌, length, Some, None, take, drop, sum, refl, sym, ap, ◌∙◌, append_assoc, append-nil, length-append, arith}
use Rattle.std.specs.Prelude.{slice_get, slice_set}
use Rattle.std.proofs.Math.Seq.{take-append_seam, drop-append_seam}
use Rattle.std.proofs.lemmas.List.Sums.{sum_by-cons, sum_by-take-drop}
use Rattle.ilasm_grammar.specs.declared.symbol.Symbol.{Symbol}
use Rattle.ilasm_grammar.specs.declared.tree.TreeNode.{TreeNode}
use Rattle.ilasm_grammar.specs.declared.tree.TreeNode.TheVariants.{Branch, Leaf}
use Rattle.ilasm_grammar.specs.Grammar.{Grammar, Derives, Derives.none, Derives.leaf, Derives.branch}
use Rattle.ilasm_grammar.specs.Counts.{arity_of, sizes_of, counted, hops, HaveRules}
use Rattle.ilasm_grammar.specs.Leftmost.{erased}
use Rattle.ilasm_grammar.proofs.LeftmostLemmas.{erased-++}

-- as many nodes as the sizes say
pub sum-sizes_of : (g : Grammar) (nodes : List TreeNode) → sum (sizes_of g nodes) ≡ length nodes
unfolding sizes_of
sum-sizes_of g [] = refl
sum-sizes_of g (Leaf token ∷ nodes) = omega (arith, sum-sizes_of g nodes, sum_by-cons (λ x. x) 1 (sizes_of g nodes))
sum-sizes_of g (Branch production count ∷ nodes) =
    let m = arity_of (g production) in
    omega (
      arith,
      sum-sizes_of g nodes,
      sum_by-take-drop (λ x. x) (sizes_of g nodes) m,
      sum_by-cons (λ x. x) (suc (sum (take m (sizes_of g nodes)))) (drop m (sizes_of g nodes)),
    )

-- what stands in front of other nodes
pub record Counted (g : Grammar) (symbols : List Symbol) (nodes : List TreeNode) (more : List TreeNode) : Type 0 where
  pub sizes : List ℕ
  pub each : length sizes ≡ length symbols
  pub all : sum sizes ≡ length nodes
  pub sizes-are : sizes_of g (erased nodes ++ more) ≡ sizes ++ sizes_of g more
  pub counts-are : counted g (erased nodes ++ more) ≡ nodes ++ counted g more

branch_counts : (g : Grammar) (production head count : ℕ) (body : List Symbol) (below after nodes more : List TreeNode) (sizes rest : List ℕ) →
    g production ≡ Some (record { head = head; body = body }) → length sizes ≡ length body → sum sizes ≡ length below → count ≡ length below →
    sizes_of g (erased nodes ++ more) ≡ sizes ++ rest → counted g (erased nodes ++ more) ≡ nodes ++ counted g more →
    (sizes_of g (erased (Branch production count ∷ nodes) ++ more) ≡ suc (length below) ∷ rest) ×
    (counted g (erased (Branch production count ∷ nodes) ++ more) ≡ Branch production count ∷ (nodes ++ counted g more))
unfolding sizes_of counted
branch_counts g production head count body below after nodes more sizes rest e each all c s n =
    let m : arity_of (g production) ≡ length sizes = ap arity_of e ∙ sym each in
    let front : take (arity_of (g production)) (sizes_of g (erased nodes ++ more)) ≡ sizes =
    rw (m, s) (take-append_seam sizes rest) in
    let back : drop (arity_of (g production)) (sizes_of g (erased nodes ++ more)) ≡ rest =
    rw (m, s) (drop-append_seam sizes rest) in
    let total : sum (take (arity_of (g production)) (sizes_of g (erased nodes ++ more))) ≡ length below = ap sum front ∙ all in
    (cc, cc)

pub counts_of : (g : Grammar) {at : ℕ} {symbols : List Symbol} {kinds : List ℕ} {nodes : List TreeNode} →
    Derives g at symbols kinds nodes → (more : List TreeNode) → Counted g symbols nodes more
unfolding sizes_of counted
counts_of g none more = record { sizes = []; each = refl; all = refl; sizes-are = refl; counts-are = refl }
counts_of g (leaf {at = at} d) more =
    let t = counts_of g d more in record {
      sizes = 1 ∷ t.sizes;
      each = ap suc t.each;
      all = omega (arith, t.all, sum_by-cons (λ x. x) 1 t.sizes);
      sizes-are = ap (λ x. 1 ∷ x) t.sizes-are;
      counts-are = ap (λ x. Leaf at ∷ x) t.counts-are;
    }
counts_of g (branch {head = head} {production = production} {count = count} {body = body} {below = below} {after = after} {nodes = nodes} e d s c k n) more =
    let b = counts_of g s more in
    let a = counts_of g d (erased after ++ more) in
    let split : erased nodes ++ more ≡ erased below ++ (erased after ++ more) =
    ap (λ x. erased x ++ more) n ∙ ap (λ x. x ++ more) (erased-++ below after) ∙ append_assoc (erased below) (erased after) more in
    let si : sizes_of g (erased nodes ++ more) ≡ a.sizes ++ (b.sizes ++ sizes_of g more) =
    ap (sizes_of g) split ∙ a.sizes-are ∙ ap (λ x. a.sizes ++ x) b.sizes-are in
    let co : counted g (erased nodes ++ more) ≡ nodes ++ counted g more =
    ap (counted g) split ∙ a.counts-are ∙ ap (λ x. below ++ x) b.counts-are ∙ sym (append_assoc below after (counted g more)) ∙ ap (λ x. x ++ counted g more) (sym n) in
    let r = branch_counts g production head count body below after nodes more a.sizes (b.sizes ++ sizes_of g more) e a.each a.all c si co in
    record {
      sizes = suc (length below) ∷ b.sizes;
      each = ap suc b.each;
      all = omega (arith, b.all, ap length n, length-append below after, sum_by-cons (λ x. x) (suc (length below)) b.sizes);
      sizes-are = r.0;
      counts-are = r.1;
    }

-- the nodes of one derivation, whose counts were taken away
pub counted-erased : (g : Grammar) {at : ℕ} {symbols : List Symbol} {kinds : List ℕ} {nodes : List TreeNode} →
    Derives g at symbols kinds nodes → counted g (erased nodes) ≡ nodes
unfolding counted
counted-erased g {nodes = nodes} d =
    let t = counts_of g d [] in
    ap (counted g) (sym (append-nil (erased nodes))) ∙ t.counts-are ∙ append-nil nodes

-- ---- a pass from the last node to the first

module _ (g : Grammar) where
  -- the node in front of those that are counted
  next_node : (raw Y : List TreeNode) (j : ℕ) (node : TreeNode) → suc j ≤ length raw → slice_get (take (suc j) raw ++ Y) j ≡ Some node →
      (drop j raw ≡ node ∷ drop (suc j) raw) × (take (suc j) raw ++ Y ≡ take j raw ++ (node ∷ Y))
  next_node [] Y j node le e = absurd (omega arith)
  next_node (x ∷ raw) Y zero node le e = let h : x ≡ node = cc in (ap (λ y. y ∷ raw) h, ap (λ y. y ∷ Y) h)
  next_node (x ∷ raw) Y (suc j) node le e =
      let r = next_node raw Y j node (omega arith) e in (r.0, ap (λ y. x ∷ y) r.1)

  set_next : (raw Y : List TreeNode) (j : ℕ) (node : TreeNode) → suc j ≤ length raw → slice_set (take (suc j) raw ++ Y) j node ≡ take j raw ++ (node ∷ Y)
  set_next [] Y j node le = absurd (omega arith)
  set_next (x ∷ raw) Y zero node le = refl
  set_next (x ∷ raw) Y (suc j) node le = ap (λ y. x ∷ y) (set_next raw Y j node (omega arith))

  got : (raw rest : List TreeNode) (j : ℕ) (node : TreeNode) → drop j raw ≡ node ∷ rest → slice_get raw j ≡ Some node
  got [] rest zero node e = cc
  got [] rest (suc j) node e = cc
  got (x ∷ raw) rest zero node e = cc
  got (x ∷ raw) rest (suc j) node e = got raw rest j node e

  -- the production of the branch in front of those that are counted
  pub has_rule : (raw nodes : List TreeNode) (j production count : ℕ) → suc j ≤ length raw → nodes ≡ take (suc j) raw ++ counted g (drop (suc j) raw) →
      slice_get nodes j ≡ Some (Branch production count) → HaveRules g raw → g production ≡ None → ⊥
  has_rule raw nodes j production count le n e h =
      let r = next_node raw (counted g (drop (suc j) raw)) j (Branch production count) le (ap (λ x. slice_get x j) (sym n) ∙ e) in
      h j production count (got raw (drop (suc j) raw) j (Branch production count) r.0)

  pub leaf_counted : (raw nodes : List TreeNode) (sizes : List ℕ) (j token : ℕ) → suc j ≤ length raw → nodes ≡ take (suc j) raw ++ counted g (drop (suc j) raw) →
      sizes ≡ sizes_of g (drop (suc j) raw) → slice_get nodes j ≡ Some (Leaf token) →
      (nodes ≡ take j raw ++ counted g (drop j raw)) × (1 ∷ sizes ≡ sizes_of g (drop j raw))
  unfolding counted sizes_of
  leaf_counted raw nodes sizes j token le n s e =
      let r = next_node raw (counted g (drop (suc j) raw)) j (Leaf token) le (ap (λ x. slice_get x j) (sym n) ∙ e) in
      (n ∙ r.1 ∙ ap (λ x. take j raw ++ counted g x) (sym r.0), ap (λ x. 1 ∷ x) s ∙ ap (sizes_of g) (sym r.0))

  pub branch_counted : (raw nodes : List TreeNode) (sizes : List ℕ) (j production count below : ℕ) → suc j ≤ length raw →
      nodes ≡ take (suc j) raw ++ counted g (drop (suc j) raw) → sizes ≡ sizes_of g (drop (suc j) raw) →
      slice_get nodes j ≡ Some (Branch production count) → below ≡ sum (take (arity_of (g production)) sizes) →
      (slice_set nodes j (Branch production below) ≡ take j raw ++ counted g (drop j raw)) ×
      (suc below ∷ drop (arity_of (g production)) sizes ≡ sizes_of g (drop j raw))
  unfolding counted sizes_of
  branch_counted raw nodes sizes j production count below le n s e b =
      let Y = counted g (drop (suc j) raw) in
      let r = next_node raw Y j (Branch production count) le (ap (λ x. slice_get x j) (sym n) ∙ e) in
      let b1 : below ≡ sum (take (arity_of (g production)) (sizes_of g (drop (suc j) raw))) = b ∙ ap (λ x. sum (take (arity_of (g production)) x)) s in (
        ap (λ x. slice_set x j (Branch production below)) n ∙ set_next raw Y j (Branch production below) le ∙
            ap (λ x. take j raw ++ (Branch production x ∷ Y)) b1 ∙ ap (λ x. take j raw ++ counted g x) (sym r.0),
        ap (λ x. suc x ∷ drop (arity_of (g production)) sizes) b1 ∙ ap (λ x. suc (sum (take (arity_of (g production)) (sizes_of g (drop (suc j) raw)))) ∷ drop (arity_of (g production)) x) s ∙ ap (sizes_of g) (sym r.0),
      )

-- ---- sizes, found by going from tree to tree

drop-counted : (g : Grammar) (n : ℕ) (raw : List TreeNode) → drop n (counted g raw) ≡ counted g (drop n raw)
unfolding counted
drop-counted g zero raw = refl
drop-counted g (suc n) [] = refl
drop-counted g (suc n) (Leaf token ∷ raw) = drop-counted g n raw
drop-counted g (suc n) (Branch production count ∷ raw) = drop-counted g n raw

-- a sum that computes
abbrev past : ℕ → ℕ → ℕ
past zero m = m
past (suc a) m = suc (past a m)

sum_parts : (a m : ℕ) (xs : List ℕ) → sum (take (past a m) xs) ≡ sum (take a xs) + sum (take m (drop a xs))
sum_parts zero m xs = omega arith
sum_parts (suc a) zero [] = refl
sum_parts (suc a) (suc m) [] = refl
sum_parts (suc a) m (x ∷ xs) =
    omega (arith, sum_parts a m xs, sum_by-cons (λ x. x) x (take (past a m) xs), sum_by-cons (λ x. x) x (take a xs))

drop_parts : (a m : ℕ) (xs : List ℕ) → drop (past a m) xs ≡ drop m (drop a xs)
drop_parts zero m xs = refl
drop_parts (suc a) zero [] = refl
drop_parts (suc a) (suc m) [] = refl
drop_parts (suc a) m (x ∷ xs) = drop_parts a m xs

-- behind so many trees stand the others
sizes_behind : (g : Grammar) (m : ℕ) (raw : List TreeNode) → sizes_of g (drop (sum (take m (sizes_of g raw))) raw) ≡ drop m (sizes_of g raw)
unfolding sizes_of
sizes_behind g zero raw = refl
sizes_behind g (suc m) [] = refl
sizes_behind g (suc m) (Leaf token ∷ raw) =
    let total : sum (1 ∷ take m (sizes_of g raw)) ≡ suc (sum (take m (sizes_of g raw))) =
    omega (arith, sum_by-cons (λ x. x) 1 (take m (sizes_of g raw))) in
    ap (λ (x : ℕ). sizes_of g (drop x (Leaf token ∷ raw))) total ∙ sizes_behind g m raw
sizes_behind g (suc m) (Branch production count ∷ raw) =
    let a = arity_of (g production) in let sizes = sizes_of g raw in
    let total : sum (suc (sum (take a sizes)) ∷ take m (drop a sizes)) ≡ suc (sum (take (past a m) sizes)) =
    omega (arith, sum_by-cons (λ x. x) (suc (sum (take a sizes))) (take m (drop a sizes)), sum_parts a m sizes) in
    ap (λ (x : ℕ). sizes_of g (drop x (Branch production count ∷ raw))) total ∙ sizes_behind g (past a m) raw ∙ drop_parts a m sizes

pub hops-counted : (g : Grammar) (m : ℕ) (raw : List TreeNode) → hops m (counted g raw) ≡ sum (take m (sizes_of g raw))
unfolding counted sizes_of
hops-counted g zero raw = refl
hops-counted g (suc m) [] = refl
hops-counted g (suc m) (Leaf token ∷ raw) =
    omega (arith, hops-counted g m raw, sum_by-cons (λ x. x) 1 (take m (sizes_of g raw)))
hops-counted g (suc m) (Branch production count ∷ raw) =
    let a = arity_of (g production) in let below = sum (take a (sizes_of g raw)) in
    let e : hops m (drop below (counted g raw)) ≡ sum (take m (drop a (sizes_of g raw))) =
    ap (hops m) (drop-counted g below raw) ∙ hops-counted g m (drop below raw) ∙ ap (λ (x : List ℕ). sum (take m x)) (sizes_behind g a raw) in
    omega (arith, e, sum_by-cons (λ x. x) (suc below) (take m (drop a (sizes_of g raw))))

drop_front : (raw Y : List TreeNode) (k : ℕ) → k ≤ length raw → drop k (take k raw ++ Y) ≡ Y
drop_front raw Y zero le = refl
drop_front [] Y (suc k) le = absurd (omega arith)
drop_front (x ∷ raw) Y (suc k) le = drop_front raw Y k (omega arith)

-- the trees from a place on, of which all are counted
pub hops_here : (g : Grammar) (raw nodes : List TreeNode) (k x m : ℕ) → k ≤ length raw → x ≡ k → nodes ≡ take k raw ++ counted g (drop k raw) →
    hops m (drop x nodes) ≡ sum (take m (sizes_of g (drop k raw)))
hops_here g raw nodes k x m le same e =
    ap (λ (y : ℕ). hops m (drop y nodes)) same ∙ ap (λ (y : List TreeNode). hops m (drop k y)) e ∙
    ap (hops m) (drop_front raw (counted g (drop k raw)) k le) ∙ hops-counted g m (drop k raw)

-- one tree more
pub hop_branch : (nodes : List TreeNode) (end m production below : ℕ) → slice_get nodes end ≡ Some (Branch production below) →
    hops (suc m) (drop end nodes) ≡ suc (below + hops m (drop below (drop (suc end) nodes)))
hop_branch [] zero m production below e = cc
hop_branch [] (suc end) m production below e = cc
hop_branch (x ∷ nodes) zero m production below e =
    let h : x ≡ Branch production below = cc in ap (λ (y : TreeNode). hops (suc m) (y ∷ nodes)) h
hop_branch (x ∷ nodes) (suc end) m production below e = hop_branch nodes end m production below e

pub hop_leaf : (nodes : List TreeNode) (end m token : ℕ) → slice_get nodes end ≡ Some (Leaf token) →
    hops (suc m) (drop end nodes) ≡ suc (hops m (drop (suc end) nodes))
hop_leaf [] zero m token e = cc
hop_leaf [] (suc end) m token e = cc
hop_leaf (x ∷ nodes) zero m token e =
    let h : x ≡ Leaf token = cc in ap (λ (y : TreeNode). hops (suc m) (y ∷ nodes)) h
hop_leaf (x ∷ nodes) (suc end) m token e = hop_leaf nodes end m token e

-- no tree is left
pub hop_none : (nodes : List TreeNode) (end m : ℕ) → slice_get nodes end ≡ None → hops (suc m) (drop end nodes) ≡ hops m (drop end nodes)
hop_none [] zero zero e = refl
hop_none [] zero (suc m) e = refl
hop_none [] (suc end) zero e = refl
hop_none [] (suc end) (suc m) e = refl
hop_none (x ∷ nodes) zero m e = cc
hop_none (x ∷ nodes) (suc end) m e = hop_none nodes end m e

-- the first tree, and the others behind it
pub hops-first : (m : ℕ) (nodes : List TreeNode) → hops (suc m) nodes ≡ hops 1 nodes + hops m (drop (hops 1 nodes) nodes)
hops-first zero [] = omega arith
hops-first (suc m) [] = omega arith
hops-first m (Leaf token ∷ nodes) = omega arith
hops-first m (Branch production count ∷ nodes) =
    let e : count + 0 ≡ count = omega arith in
    let h = ap (λ (x : ℕ). hops m (drop x nodes)) e in omega (arith, h)
