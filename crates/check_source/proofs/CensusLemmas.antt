-- What a source has of a production, by how many of its nodes have it.
use Rattle.std.proofs.Common.{◌≡◌, ℕ, zero, suc, ◌+◌, ◌-◌, ◌≤◌, List, [], ◌∷◌, ◌++◌, length, get_or, take, drop, replicate, cond, count_by, refl, ap, sym, subst, ◌∙◌, arith, length-append, take_all}
use Rattle.std.proofs.lemmas.List.Sums.{sum_by-append, sum_by-cons}
use Rattle.std.specs.Prelude.{Bool, true, false, ◌==◌, ◌||◌, if◌then◌else◌}
use Rattle.std.specs.List.{list_any}
use Rattle.ilasm_grammar.specs.declared.productions.TheConstants.{EVENT, PROPERTY}
use Rattle.ilasm_grammar.specs.declared.tree.TreeNode.{TreeNode}
use Rattle.ilasm_grammar.specs.declared.tree.TreeNode.TheVariants.{Branch, Leaf}
use Rattle.source_model.specs.Forest as tree
use Rattle.source_model.specs.Forest.{Forest, Part, below_each, each, has, is_any_part, part, parts, preorder}
use Rattle.source_nodes.specs.Walk.{is_of}
use Rattle.check_source.specs.Census.{is_asked, is_long, one_of}
use Rattle.check_source.specs.declared.census.Census.{Census}
use Rattle.check_members.specs.OwnMethods.{is_owner}

abbrev pub count_of : ℕ → List TreeNode → ℕ
count_of p nodes = count_by (is_of p) nodes

abbrev pub one_if : Bool → ℕ
one_if b = cond b 1 0

pub count_first : (p : ℕ) (node : TreeNode) (nodes : List TreeNode) → count_of p (node ∷ nodes) ≡ one_of p node + count_of p nodes
count_first p node nodes = sum_by-cons (one_of p) node nodes

pub count_branch : (p q : ℕ) (b a : Forest) → count_of p (preorder (tree.branch q b a)) ≡ one_if (p == q) + (count_of p (preorder b) + count_of p (preorder a))
count_branch p q b a =
    count_first p (Branch q (length (preorder b))) (preorder b ++ preorder a)
    ∙ ap (λ n. one_if (p == q) + n) (sum_by-append (λ (x : TreeNode). one_if (is_of p x)) (preorder b) (preorder a))

-- no more parts than nodes
few_parts : (p : ℕ) (f : Forest) → length (parts (p ∷ []) f) ≤ count_of p (preorder f)
few_parts p tree.none = omega arith
few_parts p (tree.leaf k a) =
    let rest = few_parts p a in
    let same = count_first p (Leaf k) (preorder a) in
    omega (arith, rest, same)
few_parts p (tree.branch q b a) = go (p == q) refl (few_parts p b) (few_parts p a)
  where
    go : (c : Bool) → (p == q) ≡ c → length (parts (p ∷ []) b) ≤ count_of p (preorder b) → length (parts (p ∷ []) a) ≤ count_of p (preorder a)
        → length (parts (p ∷ []) (tree.branch q b a)) ≤ count_of p (preorder (tree.branch q b a))
    go true is inner rest =
        let own : length (parts (p ∷ []) (tree.branch q b a)) ≡ suc (length (parts (p ∷ []) a)) =
        ap (λ (c : Bool). length ((if c || false then part q b ∷ [] else parts (p ∷ []) b) ++ parts (p ∷ []) a)) is in
        let one : one_if (p == q) ≡ 1 = ap one_if is in
        omega (arith, own, one, rest, count_branch p q b a)
    go false is inner rest =
        let other : length (parts (p ∷ []) (tree.branch q b a)) ≡ length (parts (p ∷ []) b ++ parts (p ∷ []) a) =
        ap (λ (c : Bool). length ((if c || false then part q b ∷ [] else parts (p ∷ []) b) ++ parts (p ∷ []) a)) is in
        omega (arith, other, inner, rest, length-append (parts (p ∷ []) b) (parts (p ∷ []) a), count_branch p q b a)

as_many : (ps : List Part) → length (below_each ps) ≡ length ps
as_many [] = refl
as_many (p ∷ ps) = ap suc (as_many ps)

one_at_most : {X : Type 0} (xs : List X) → length xs ≤ 1 → drop 1 xs ≡ []
one_at_most [] few = refl
one_at_most (x ∷ []) few = refl
one_at_most (x ∷ y ∷ xs) few = absurd (omega (arith, few))

nothing_in : {X : Type 0} (xs : List X) → length xs ≤ 0 → xs ≡ []
nothing_in [] few = refl
nothing_in (x ∷ xs) few = absurd (omega (arith, few))

-- of at most one none is behind the first
pub none_behind : (p : ℕ) (f : Forest) (n : ℕ) → n ≡ count_of p (preorder f) → n ≤ 1 → drop 1 (each p f) ≡ []
none_behind p f n is few =
    let many = few_parts p f in
    let same = as_many (parts (p ∷ []) f) in
    one_at_most (each p f) (omega (arith, is, few, many, same))

pub no_parts : (p : ℕ) (f : Forest) → 0 ≡ count_of p (preorder f) → parts (p ∷ []) f ≡ []
no_parts p f is = let many = few_parts p f in nothing_in (parts (p ∷ []) f) (omega (arith, is, many))

pub has_none : (p : ℕ) (f : Forest) → 0 ≡ count_of p (preorder f) → has p f ≡ false
has_none p f is = ap is_any_part (no_parts p f is)

-- no property and no event
pub no_owners : (nodes : List TreeNode) → 0 ≡ count_of PROPERTY nodes → 0 ≡ count_of EVENT nodes → list_any is_owner nodes ≡ false
no_owners [] e h = refl
no_owners (Leaf k ∷ nodes) e h =
    let first = count_first PROPERTY (Leaf k) nodes in
    let second = count_first EVENT (Leaf k) nodes in
    no_owners nodes (omega (arith, e, first)) (omega (arith, h, second))
no_owners (Branch q n ∷ nodes) e h = go (PROPERTY == q) refl (EVENT == q) refl (no_owners nodes)
  where
    go : (c : Bool) → (PROPERTY == q) ≡ c → (d : Bool) → (EVENT == q) ≡ d
        → (0 ≡ count_of PROPERTY nodes → 0 ≡ count_of EVENT nodes → list_any is_owner nodes ≡ false)
        → list_any is_owner (Branch q n ∷ nodes) ≡ false
    go true own d other rest =
        let one : one_if (PROPERTY == q) ≡ 1 = ap one_if own in
        absurd (omega (arith, e, one, count_first PROPERTY (Branch q n) nodes))
    go false own true other rest =
        let one : one_if (EVENT == q) ≡ 1 = ap one_if other in
        absurd (omega (arith, h, one, count_first EVENT (Branch q n) nodes))
    go false own false other rest =
        let first : 0 ≡ count_of PROPERTY nodes = omega (arith, e, count_first PROPERTY (Branch q n) nodes) in
        let second : 0 ≡ count_of EVENT nodes = omega (arith, h, count_first EVENT (Branch q n) nodes) in
        ap (λ (c : Bool). (c || (EVENT == q || false)) || list_any is_owner nodes) own
        ∙ ap (λ (c : Bool). (c || false) || list_any is_owner nodes) other
        ∙ rest first second

-- ---- counting

-- with what is left there are as many as there are in all
pub record Counting (nodes left : List TreeNode) (c : Census) : Type 0 where
  pub few : (p : ℕ) → get_or c.counts p 0 + length left ≤ length nodes
  pub counts : (p : ℕ) → is_asked p ≡ true → get_or c.counts p 0 + count_of p left ≡ count_of p nodes
  pub long : (c.long_types || list_any is_long left) ≡ list_any is_long nodes

-- one node more is counted
pub record Notes (node : TreeNode) (before after : Census) : Type 0 where
  pub few : (p : ℕ) → get_or after.counts p 0 ≤ get_or before.counts p 0 + 1
  pub counts : (p : ℕ) → is_asked p ≡ true → get_or after.counts p 0 ≡ get_or before.counts p 0 + one_of p node
  pub long : after.long_types ≡ (before.long_types || is_long node)

or_assoc : (a b c : Bool) → ((a || b) || c) ≡ (a || (b || c))
or_assoc true b c = refl
or_assoc false b c = refl

or_nothing : (b : Bool) → b ≡ (b || false)
or_nothing true = refl
or_nothing false = refl

pub counting_start : (nodes : List TreeNode) (c : Census) → ((p : ℕ) → get_or c.counts p 0 ≡ 0) → c.long_types ≡ false → Counting nodes nodes c
counting_start nodes c none short = record {
  few = λ p. let zero = none p in omega (arith, zero);
  counts = λ p is. ap (λ n. n + count_of p nodes) (none p) ∙ omega arith;
  long = ap (λ b. b || list_any is_long nodes) short;
}

pub no_counts : (n p : ℕ) → get_or (replicate {A = ℕ} n 0) p 0 ≡ 0
no_counts zero p = refl
no_counts (suc n) zero = refl
no_counts (suc n) (suc p) = no_counts n p

pub counting_more : (nodes rest : List TreeNode) (node : TreeNode) (before after : Census) → Counting nodes (node ∷ rest) before → Notes node before after
    → Counting nodes rest after
counting_more nodes rest node before after c n = record {
  few = λ p. let so_far = c.few p in let one = n.few p in omega (arith, so_far, one);
  counts = λ p is.
      let so_far = c.counts p is in
      let one = n.counts p is in
      let first = count_first p node rest in
      omega (arith, so_far, one, first);
  long = ap (λ b. b || list_any is_long rest) n.long ∙ or_assoc before.long_types (is_long node) (list_any is_long rest) ∙ c.long;
}

pub counting_end : (nodes : List TreeNode) (c : Census) → Counting nodes [] c
    → ((p : ℕ) → is_asked p ≡ true → get_or c.counts p 0 ≡ count_of p nodes) × (c.long_types ≡ list_any is_long nodes)
counting_end nodes c end = (
  λ p is. let whole = end.counts p is in let none : get_or c.counts p 0 ≡ get_or c.counts p 0 + 0 = omega arith in none ∙ whole,
  or_nothing c.long_types ∙ end.long,
)

front_eight : (left : List TreeNode) (z : TreeNode) → 8 ≤ length left
    → left ≡ get_or left 0 z ∷ get_or left 1 z ∷ get_or left 2 z ∷ get_or left 3 z
    ∷ get_or left 4 z ∷ get_or left 5 z ∷ get_or left 6 z ∷ get_or left 7 z ∷ take (length left - 8) (drop 8 left)
front_eight [] z long = absurd (omega (arith, long))
front_eight (a ∷ []) z long = absurd (omega (arith, long))
front_eight (a ∷ b ∷ []) z long = absurd (omega (arith, long))
front_eight (a ∷ b ∷ c ∷ []) z long = absurd (omega (arith, long))
front_eight (a ∷ b ∷ c ∷ d ∷ []) z long = absurd (omega (arith, long))
front_eight (a ∷ b ∷ c ∷ d ∷ e ∷ []) z long = absurd (omega (arith, long))
front_eight (a ∷ b ∷ c ∷ d ∷ e ∷ f ∷ []) z long = absurd (omega (arith, long))
front_eight (a ∷ b ∷ c ∷ d ∷ e ∷ f ∷ g ∷ []) z long = absurd (omega (arith, long))
front_eight (a ∷ b ∷ c ∷ d ∷ e ∷ f ∷ g ∷ h ∷ rest) z long =
    let all : length rest ≤ length (a ∷ b ∷ c ∷ d ∷ e ∷ f ∷ g ∷ h ∷ rest) - 8 = omega arith in
    ap (λ ns. a ∷ b ∷ c ∷ d ∷ e ∷ f ∷ g ∷ h ∷ ns) (sym (take_all (length (a ∷ b ∷ c ∷ d ∷ e ∷ f ∷ g ∷ h ∷ rest) - 8) rest all))

-- eight nodes more are counted
module _ (nodes left : List TreeNode) (z : TreeNode) where
  abbrev nth : ℕ → TreeNode
  nth k = get_or left k z

  -- those that are left behind so many of them
  abbrev last : List TreeNode
  last = take (length left - 8) (drop 8 left)

  pub counting_four : (s0 s1 s2 s3 s4 : Census) → 8 ≤ length left → Counting nodes left s0
      → Notes (nth 0) s0 s1 → Notes (nth 1) s1 s2 → Notes (nth 2) s2 s3 → Notes (nth 3) s3 s4
      → Counting nodes (nth 4 ∷ nth 5 ∷ nth 6 ∷ nth 7 ∷ last) s4
  counting_four s0 s1 s2 s3 s4 long c n0 n1 n2 n3 =
      counting_more nodes (nth 4 ∷ nth 5 ∷ nth 6 ∷ nth 7 ∷ last) (nth 3) s3 s4
      (counting_more nodes (nth 3 ∷ nth 4 ∷ nth 5 ∷ nth 6 ∷ nth 7 ∷ last) (nth 2) s2 s3
      (counting_more nodes (nth 2 ∷ nth 3 ∷ nth 4 ∷ nth 5 ∷ nth 6 ∷ nth 7 ∷ last) (nth 1) s1 s2
      (counting_more nodes (nth 1 ∷ nth 2 ∷ nth 3 ∷ nth 4 ∷ nth 5 ∷ nth 6 ∷ nth 7 ∷ last) (nth 0) s0 s1
      (subst (λ ns. Counting nodes ns s0) (front_eight left z long) c) n0) n1) n2) n3

  pub counting_others : (s4 s5 s6 s7 s8 : Census) → Counting nodes (nth 4 ∷ nth 5 ∷ nth 6 ∷ nth 7 ∷ last) s4
      → Notes (nth 4) s4 s5 → Notes (nth 5) s5 s6 → Notes (nth 6) s6 s7 → Notes (nth 7) s7 s8 → Counting nodes last s8
  counting_others s4 s5 s6 s7 s8 c n4 n5 n6 n7 =
      counting_more nodes last (nth 7) s7 s8
      (counting_more nodes (nth 7 ∷ last) (nth 6) s6 s7
      (counting_more nodes (nth 6 ∷ nth 7 ∷ last) (nth 5) s5 s6
      (counting_more nodes (nth 5 ∷ nth 6 ∷ nth 7 ∷ last) (nth 4) s4 s5 c n4) n5) n6) n7
