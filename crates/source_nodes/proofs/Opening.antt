-- The first node of a forest.
use Rattle.std.proofs.Common.{Bor, refl, subst, ◌≡◌, ℕ, ◌<◌, ◌^◌, List, ◌∷◌, ◌++◌, length, take, drop, ap, sym, ◌∙◌, arith, length-take, length-drop}
use Rattle.std.proofs.lemmas.List.{take-append-drop}
use Rattle.ilasm_grammar.specs.declared.tree.TreeNode.{TreeNode}
use Rattle.ilasm_grammar.specs.declared.tree.TreeNode.TheVariants.{Branch, Leaf}
use Rattle.source_model.specs.Forest.{Forest, preorder}
use Rattle.source_model.specs.Laws.{ForestOpens, ForestsJoin, BeginsWithLeaf}
use Rattle.source_nodes.specs.Walk.{Opens, BeginsWith, count_below}
use Rattle.source_nodes.specs.declared.walk.Opened.{Opened}

pub opens : ForestOpens → ForestsJoin → (nodes : List TreeNode) (node : TreeNode) (behind : List TreeNode) (x : Opened) → nodes ≡ node ∷ behind
    → x.node ≡ node → x.behind.now ≡ behind → x.below.now ≡ take (count_below node) behind → x.after.now ≡ drop (count_below node) behind
    → count_below node < 2 ^ 32 → Opens nodes x
opens forests joins nodes node behind x whole n b low late small = record {
  lower = omega (arith, ap length whole, ap length low, length-take (count_below node) behind);
  later = omega (arith, ap length whole, ap length late, length-drop (count_below node) behind);
  fewer = omega (arith, ap length whole, ap length b);
  few = omega (arith, ap length low, length-take (count_below node) behind, small);
  leaf = λ f token e is. begins_with_leaf f token e is;
  branch = λ f p count e is. begins_with f p count e is;
}
  where
    begins_with_leaf : (f : Forest) (token : ℕ) → preorder f ≡ nodes → x.node ≡ Leaf token → BeginsWithLeaf f token x.behind.now
    begins_with_leaf f token e is =
        forests.leaf f token x.behind.now (e ∙ whole ∙ ap (λ y. y ∷ behind) (sym n ∙ is) ∙ ap (λ ns. Leaf token ∷ ns) (sym b))

    begins_with : (f : Forest) (p count : ℕ) → preorder f ≡ nodes → x.node ≡ Branch p count → BeginsWith f p x.below.now x.after.now x.behind.now
    begins_with f p count e is =
        let g = forests.branch f p count behind (e ∙ whole ∙ ap (λ y. y ∷ behind) (sym n ∙ is)) in
        let many : count_below node ≡ count = ap count_below (sym n ∙ is) in
        record {
          inner = g.below;
          rest = g.after;
          is = g.is;
          inner-is = g.inner ∙ ap (λ k. take k behind) (sym many) ∙ sym low;
          rest-is = g.rest ∙ ap (λ k. drop k behind) (sym many) ∙ sym late;
          behind-is = joins.nodes g.below g.after ∙ ap (λ ns. ns ++ preorder g.after) g.inner ∙ ap (λ ns. take count behind ++ ns) g.rest
              ∙ take-append-drop count behind ∙ sym b;
        }

-- ---- a node that is cut off

-- the first node, what stands below and after it in two slices, and all behind it
abbrev pub in_two : TreeNode → Bor (List TreeNode) → Bor (List TreeNode) → Bor (List TreeNode) → Opened
in_two node below after behind = record { node = node; below = below; after = after; behind = behind }

pub opens_in_two : ForestOpens → ForestsJoin → (nodes : List TreeNode) (node : TreeNode) (count : ℕ) (below after behind : Bor (List TreeNode))
    → nodes ≡ node ∷ behind.now → count ≡ count_below node → count < 2 ^ 32 → below.now ≡ take count behind.now → after.now ≡ drop count behind.now
    → Opens nodes (in_two node below after behind)
opens_in_two forests joins nodes node count below after behind e many small low late =
    opens forests joins nodes node behind.now (in_two node below after behind) e refl refl (low ∙ ap (λ n. take n behind.now) many)
    (late ∙ ap (λ n. drop n behind.now) many) (subst (λ n. n < 2 ^ 32) many small)

-- the same of one slice
abbrev pub whole : TreeNode → Bor (List TreeNode) → Opened
whole node behind =
    in_two node (record { ref_ptr = behind.ref_ptr; now = take (count_below node) behind.now })
    (record { ref_ptr = behind.ref_ptr; now = drop (count_below node) behind.now }) behind

pub opens_whole : ForestOpens → ForestsJoin → (nodes : List TreeNode) (node : TreeNode) (count : ℕ) (behind : Bor (List TreeNode))
    → nodes ≡ node ∷ behind.now → count ≡ count_below node → count < 2 ^ 32 → Opens nodes (whole node behind)
opens_whole forests joins nodes node count behind e many small =
    opens forests joins nodes node behind.now (whole node behind) e refl refl refl refl (subst (λ n. n < 2 ^ 32) many small)
