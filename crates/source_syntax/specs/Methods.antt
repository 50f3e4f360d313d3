-- The methods of a source, and what their derivation says of each.
use Rattle.std.specs.Prelude.{◌≡◌, ℕ, ◌==◌, List, [], ◌∷◌, ◌++◌, map, if◌then◌else◌}
use Rattle.std.specs.List.{AllByRecursion}
use Rattle.il_lexer.specs.declared.types.TokenKind.TheVariants.{Name}
use Rattle.ilasm_grammar.specs.declared.productions.TheConstants.{METHOD}
use Rattle.ilasm_grammar.specs.declared.tree.TreeNode.{TreeNode}
use Rattle.source_model.specs.Forest.{Forest, none, leaf, branch, preorder, tokens_of}
use Rattle.source_model.specs.Nodes.{Node}
use Rattle.source_model.specs.Source.{Source}
use Rattle.source_model.specs.TokenOrder.{numbers_from}
use Rattle.source_nodes.specs.Derived.{FitsBody, HasBodies}
use Rattle.source_nodes.specs.Pieces.{nodes_of}
use Rattle.source_nodes.specs.Readers.{IsOf}
use Rattle.source_nodes.specs.declared.pieces.Piece.{Piece}

-- what stands below each branch of a forest that has this production, also below another one, in preorder
abbrev pub all_below : ℕ → Forest → List Forest
all_below p none = []
all_below p (leaf token after) = all_below p after
all_below p (branch q below after) = (if p == q then below ∷ [] else []) ++ (all_below p below ++ all_below p after)

-- what was found among the nodes is these, in order
abbrev pub AreBelow : List TreeNode → List Piece → List Forest → Type 0
AreBelow nodes found fs = map (nodes_of nodes) found ≡ map preorder fs

-- below a production of a derivation stands its body, and so it is further below; and its tokens follow one another
pub record IsDerived (s : Source) (p : ℕ) (f : Forest) : Type 0 where
  pub fits : FitsBody s p f
  pub bodies : HasBodies s f
  pub first : ℕ
  pub count : ℕ
  pub in-order : tokens_of f ≡ numbers_from first count

abbrev pub IsMethod : Source → Node → Type 0
IsMethod s n = IsDerived s METHOD n.below

-- each of these tokens is a name
abbrev pub AreNames : Source → List ℕ → Type 0
AreNames s tokens = AllByRecursion (IsOf s Name) tokens
