-- The instructions of a method, one by one.
use Rattle.std.specs.Prelude.{◌≡◌, ℕ, List, Some, slice_get}
use Rattle.ilasm_grammar.specs.declared.tree.TreeNode.{TreeNode}
use Rattle.source_model.specs.Forest.{Part, preorder}
use Rattle.source_model.specs.Instructions.{instructions_of}
use Rattle.source_model.specs.Nodes.{Node}
use Rattle.source_model.specs.Source.{Source}
use Rattle.source_nodes.specs.Derived.{FitsBody, HasBodies}

-- the instruction of a method with this number, by its production and the nodes below that
pub record IsInstruction (s : Source) (n : Node) (number production : ℕ) (below : List TreeNode) (p : Part) : Type 0 where
  pub at : slice_get (instructions_of n.below) number ≡ Some p
  pub production-is : p.production ≡ production
  pub below-is : preorder p.below ≡ below
  pub fits : FitsBody s p.production p.below
  pub bodies : HasBodies s p.below
