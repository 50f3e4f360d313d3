-- Methods that say no depth of their stack and have no locals and no clauses (ECMA-335 II.15.4.1).
use Rattle.std.specs.Prelude.{ℕ, Bool, true, List, ◌∷◌, not}
use Rattle.std.specs.List.{list_all}
use Rattle.ilasm_grammar.specs.declared.productions.TheConstants.{ITEM_MAXSTACK, LOCAL}
use Rattle.ilasm_grammar.specs.declared.tree.TreeNode.{TreeNode}
use Rattle.ilasm_grammar.specs.declared.tree.TreeNode.TheVariants.{Branch, Leaf}
use Rattle.source_model.specs.Clauses.{clause_forms}
use Rattle.source_model.specs.Forest.{is_among}

-- a depth of the stack, a local or a clause
abbrev pub lines : List ℕ
lines = ITEM_MAXSTACK ∷ LOCAL ∷ clause_forms

abbrev pub is_other : TreeNode → Bool
is_other (Branch p count) = not (is_among lines p)
is_other (Leaf token) = true

-- the nodes below a method's production are none of these
abbrev pub is_plain : List TreeNode → Bool
is_plain nodes = list_all is_other nodes
