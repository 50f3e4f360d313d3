-- The nodes of a derivation, and what is looked for among them.
use Rattle.std.specs.Prelude.{◌≡◌, ℕ, ◌+◌, ◌<◌, ◌^◌, ◌==◌, Bool, false, List, map, take, drop, length}
use Rattle.ilasm_grammar.specs.declared.tree.TreeNode.{TreeNode}
use Rattle.ilasm_grammar.specs.declared.tree.TreeNode.TheVariants.{Branch, Leaf}
use Rattle.source_model.specs.Forest.{Forest, branch, Part, preorder, joined}
use Rattle.source_model.specs.Laws.{BeginsWithLeaf}
use Rattle.source_nodes.specs.declared.walk.Found.{Found}
use Rattle.source_nodes.specs.declared.walk.Opened.{Opened}

-- these nodes are those of a forest
abbrev pub IsForest : List TreeNode → Type 0
IsForest nodes = (f : Forest) × (preorder f ≡ nodes)

-- the nodes below a branch that was found
abbrev pub nodes_below : List TreeNode → Found → List TreeNode
nodes_below nodes x = take x.count (drop (x.at + 1) nodes)

-- what was found among the nodes is these parts, in order
abbrev pub Finds : List TreeNode → List Found → List Part → Type 0
Finds nodes found ps = map (nodes_below nodes) found ≡ map (λ p. preorder p.below) ps

-- ---- the first node

-- how many nodes stand below a node
abbrev pub count_below : TreeNode → ℕ
count_below (Branch p count) = count
count_below (Leaf token) = 0

-- a forest that begins with a production: what stands below it and what after it, and all that stands behind its node
pub record BeginsWith (f : Forest) (p : ℕ) (below after behind : List TreeNode) : Type 0 where
  pub inner : Forest
  pub rest : Forest
  pub is : f ≡ branch p inner rest
  pub inner-is : preorder inner ≡ below
  pub rest-is : preorder rest ≡ after
  pub behind-is : preorder (joined inner rest) ≡ behind

-- the first of these nodes: what stands below it, what stands after that, and all nodes behind it
pub record Opens (nodes : List TreeNode) (x : Opened) : Type 0 where
  pub lower : length x.below.now < length nodes
  pub later : length x.after.now < length nodes
  pub fewer : length x.behind.now < length nodes
  pub few : length x.below.now < 2 ^ 32
  pub leaf : (f : Forest) (token : ℕ) → preorder f ≡ nodes → x.node ≡ Leaf token → BeginsWithLeaf f token x.behind.now
  pub branch : (f : Forest) (p count : ℕ) → preorder f ≡ nodes → x.node ≡ Branch p count
      → BeginsWith f p x.below.now x.after.now x.behind.now

-- a node is a branch with this production
abbrev pub is_of : ℕ → TreeNode → Bool
is_of p (Branch q count) = p == q
is_of p (Leaf token) = false
