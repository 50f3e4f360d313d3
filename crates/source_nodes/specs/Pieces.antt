-- The productions of some kinds among the nodes of a derivation.
use Rattle.std.specs.Prelude.{◌≡◌, ℕ, List, [], ◌∷◌, map, take, drop}
use Rattle.ilasm_grammar.specs.declared.tree.TreeNode.{TreeNode}
use Rattle.ilasm_grammar.specs.declared.productions.TheConstants.{
  INSTRUCTION_OP_BRANCH,
  INSTRUCTION_SWITCH,
  TRY_RANGE_NAME,
  HANDLER_HANDLER,
  FILTER_START_NAME,
}
use Rattle.source_model.specs.Forest.{Part, preorder}
use Rattle.source_model.specs.Instructions.{instruction_forms}
use Rattle.source_nodes.specs.declared.pieces.Piece.{Piece}
use Rattle.source_nodes.specs.declared.pieces.Sought.{Sought}
use Rattle.source_nodes.specs.declared.pieces.Sought.TheVariants.{One, Instructions, LabelNames}

abbrev pub productions_of : Sought → List ℕ
productions_of (One p) = p ∷ []
productions_of Instructions = instruction_forms
productions_of LabelNames = INSTRUCTION_OP_BRANCH ∷ INSTRUCTION_SWITCH ∷ TRY_RANGE_NAME ∷ HANDLER_HANDLER ∷ FILTER_START_NAME ∷ []

-- the nodes below a production that was found
abbrev pub nodes_of : List TreeNode → Piece → List TreeNode
nodes_of nodes x = take x.count (drop x.start nodes)

-- a production that was found, and a part, each with the nodes below it
abbrev pub piece_of : List TreeNode → Piece → ℕ × List TreeNode
piece_of nodes x = (x.production, nodes_of nodes x)

abbrev pub written : Part → ℕ × List TreeNode
written p = (p.production, preorder p.below)

-- what was found among the nodes is these parts, in order
abbrev pub ArePieces : List TreeNode → List Piece → List Part → Type 0
ArePieces nodes found ps = map (piece_of nodes) found ≡ map written ps

-- and it is some parts
abbrev pub AreParts : List TreeNode → List Piece → Type 0
AreParts nodes found = (ps : List Part) × ArePieces nodes found ps
