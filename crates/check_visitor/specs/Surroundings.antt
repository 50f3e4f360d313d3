-- What the code knows of what stands around a production, and of the production itself.
use Rattle.std.specs.Prelude.{◌≡◌, ℕ, ◌<◌, ◌^◌, ◌==◌, ◌||◌, Bool, false, min, length, List, take, drop, None, ⊤}
use Rattle.std.specs.List.{AllByRecursion, flat_map}
use Rattle.ilasm_grammar.specs.declared.productions.TheConstants.{CLASS, METHOD}
use Rattle.ilasm_grammar.specs.declared.tree.TreeNode.{TreeNode}
use Rattle.ilasm_grammar.specs.declared.tree.TreeNode.TheVariants.{Branch, Leaf}
use Rattle.source_model.specs.Forest.{Forest, preorder}
use Rattle.source_model.specs.Nodes.{Around, Node, nodes_in, typar_names}
use Rattle.source_model.specs.Parameters.{parameters}
use Rattle.source_model.specs.Source.{Source}
use Rattle.source_nodes.specs.Derived.{FitsBody, HasBodies}
use Rattle.source_nodes.specs.Least.{least}
use Rattle.check_visitor.specs.declared.asking.Surrounding.{Surrounding}

-- the classes around a place are counted up to 101
pub record IsSurrounding (p : Surrounding) (a : Around) : Type 0 where
  pub depth : p.depth ≡ min (length a.path) 101
  pub class : preorder a.class ≡ p.class.now
  pub method : preorder a.method ≡ p.method.now

-- a production with what stands below it, and around its parts
pub record IsNode (p : Surrounding) (production : ℕ) (below : List TreeNode) (n : Node) : Type 0 where
  pub production-is : n.production ≡ production
  pub below-is : preorder n.below ≡ below
  pub place : IsSurrounding p n.around

-- the names of the generic parameters of the class and of the method around a place, and how many parameters the method has
pub record HasParameters (s : Source) (p : Surrounding) (a : Around) : Type 0 where
  pub class : p.class_typars.now ≡ typar_names s a.class
  pub method : p.method_typars.now ≡ typar_names s a.method
  pub count : p.parameters ≡ length (parameters a.method)
  pub few-class : length (typar_names s a.class) < 2 ^ 32
  pub few-method : length (typar_names s a.method) < 2 ^ 32

-- a production of a derivation: below it stands its body, and so it is with each production there
pub record IsDerived (s : Source) (p : Surrounding) (n : Node) : Type 0 where
  pub fits : FitsBody s n.production n.below
  pub bodies : HasBodies s n.below
  pub parameters : HasParameters s p n.around

-- its parts have other things around them than it has
abbrev pub is_scope : ℕ → Bool
is_scope p = p == CLASS || p == METHOD

-- what a rule finds at the productions of a forest
abbrev pub found_in : (Source → Node → List ℕ) → Source → Around → Forest → List ℕ
found_in broken s a f = flat_map (broken s) (nodes_in s a f)

-- a token, or a production that is no scope and at which a rule finds nothing
abbrev pub IsQuiet : (Source → Node → List ℕ) → TreeNode → Type 0
IsQuiet broken (Leaf token) = ⊤
IsQuiet broken (Branch p count) = (is_scope p ≡ false) × ((s : Source) (n : Node) → n.production ≡ p → None ≡ least (broken s n))

-- these nodes are left behind some at the front that are so
pub record PassesQuiet (broken : Source → Node → List ℕ) (nodes left : List TreeNode) : Type 0 where
  pub many : ℕ
  pub quiet : AllByRecursion (IsQuiet broken) (take many nodes)
  pub left-is : left ≡ drop many nodes
