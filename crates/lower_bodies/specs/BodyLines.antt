-- The instructions of a method and its labels (ECMA-335 II.5.4, II.15.4.1).
use Rattle.std.specs.Prelude.{◌≡◌, List}
use Rattle.ilasm_grammar.specs.declared.tree.TreeNode.{TreeNode}
use Rattle.source_model.specs.Forest.{Forest}
use Rattle.source_model.specs.Instructions.{instructions_of, labels}
use Rattle.source_nodes.specs.Pieces.{ArePieces}
use Rattle.lower_bodies.specs.HeldItems.{IsHeld}
use Rattle.lower_bodies.specs.declared.body_lines.Lines.{Lines}

pub record AreLines (nodes : List TreeNode) (f : Forest) (x : Lines) : Type 0 where
  pub instructions-are : ArePieces nodes x.instructions (instructions_of f)
  pub labels-are : x.labels ≡ labels f
  pub held-is : IsHeld x.held f
