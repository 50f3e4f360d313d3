-- What comes next in a walk over the items of a method, with the ends of blocks (ECMA-335 II.15.4.1, II.19).
use Rattle.std.specs.Prelude.{ℕ, ◌==◌, ◌||◌, if◌then◌else◌, List, [], ◌∷◌, ◌++◌, Option, None, Some, slice_get}
use Rattle.ilasm_grammar.specs.declared.productions.TheConstants.{BLOCK, ITEM_TRY}
use Rattle.ilasm_grammar.specs.declared.tree.TreeNode.{TreeNode}
use Rattle.ilasm_grammar.specs.declared.tree.TreeNode.TheVariants.{Branch, Leaf}
use Rattle.source_model.specs.Forest.{is_among}
use Rattle.source_model.specs.Items.{plain_items}
use Rattle.lower_members.specs.declared.item_walks.Open.{Open}
use Rattle.lower_members.specs.declared.item_walks.Step.{Step}
use Rattle.lower_members.specs.declared.item_walks.Step.TheVariants.{Block, Close, Item, Pass}

-- the blocks that are open, given from the innermost outwards, in the order in which they were opened
abbrev pub unrolled : List Open → List Open
unrolled [] = []
unrolled (o ∷ os) = unrolled os ++ o ∷ []

abbrev pub branch_step : ℕ → ℕ → Step
branch_step p count =
    if is_among plain_items p then Item p count else if p == ITEM_TRY || p == BLOCK then Block p count else Pass

abbrev pub node_step : Option TreeNode → Option Step
node_step None = None
node_step (Some (Leaf token)) = Some Pass
node_step (Some (Branch p count)) = Some (branch_step p count)

-- a block that ends here is closed first
abbrev pub step_of : List TreeNode → List Open → ℕ → Option Step
step_of nodes [] at = node_step (slice_get nodes at)
step_of nodes (o ∷ os) at = if o.end == at then Some (Close o.production) else node_step (slice_get nodes at)
