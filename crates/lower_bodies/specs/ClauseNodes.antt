-- The nodes of exception clauses (ECMA-335 II.19).
use Rattle.std.specs.Prelude.{◌≡◌, ℕ, true, false}
use Rattle.ilasm_grammar.specs.declared.tree.TreeNode.{TreeNode}
use Rattle.ilasm_grammar.specs.declared.tree.TreeNode.TheVariants.{Branch}
use Rattle.source_model.specs.Clauses.{clause_forms}
use Rattle.source_model.specs.Forest.{is_among}

-- a node is a clause with this production
pub record IsClause (node : TreeNode) (p : ℕ) : Type 0 where
  pub count : ℕ
  pub is : node ≡ Branch p count
  pub among : is_among clause_forms p ≡ true

-- a node isn't one
abbrev pub IsNoClause : TreeNode → Type 0
IsNoClause node = (p count : ℕ) → node ≡ Branch p count → is_among clause_forms p ≡ false
