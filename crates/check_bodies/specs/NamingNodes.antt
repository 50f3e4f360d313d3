-- Nodes of productions that name labels (ECMA-335 II.15.4.1, II.19, III.3.15, III.3.66).
use Rattle.std.specs.Prelude.{Bool, false}
use Rattle.ilasm_grammar.specs.declared.tree.TreeNode.{TreeNode}
use Rattle.ilasm_grammar.specs.declared.tree.TreeNode.TheVariants.{Branch, Leaf}
use Rattle.source_model.specs.Forest.{is_among}
use Rattle.source_nodes.specs.Pieces.{productions_of}
use Rattle.source_nodes.specs.declared.pieces.Sought.TheVariants.{LabelNames}

abbrev pub is_naming : TreeNode → Bool
is_naming (Branch p count) = is_among (productions_of LabelNames) p
is_naming (Leaf token) = false
