-- How tokens stand in a derivation, and the parts among them.
use Rattle.std.specs.Prelude.{◌≡◌, ℕ, zero, suc, ◌+◌, ◌<◌, ◌≤◌, List, [], ◌∷◌, length, All}
use Rattle.ilasm_grammar.specs.Grammar.{Grammar, Derives}
use Rattle.ilasm_grammar.specs.declared.symbol.Symbol.{Symbol}
use Rattle.ilasm_grammar.specs.declared.tree.TreeNode.{TreeNode}
use Rattle.source_model.specs.Forest.{Forest, preorder, tokens_of, Part, parts_outside, first_token}

-- so many numbers from this one on
abbrev pub numbers_from : ℕ → ℕ → List ℕ
numbers_from at zero = []
numbers_from at (suc count) = at ∷ numbers_from (suc at) count

-- a part that has a token begins at one from `at` on and before `end`
abbrev pub StandsWithin : ℕ → ℕ → Part → Type 0
StandsWithin at end p = 0 < length (tokens_of p.below) → (at ≤ first_token p.below) × (first_token p.below < end)

-- The tokens of a forest that is a derivation of so many kinds, the first of which is that of token `at`, are so many from
-- `at` on. And where those of a forest are so many from `at` on, its parts stand among them; so which parts begin before a
-- token follows from where one has come to in the forest.
pub record TokensStandInOrder : Type 0 where
  pub consecutive : (g : Grammar) (at : ℕ) (symbols : List Symbol) (kinds : List ℕ) (nodes : List TreeNode) (f : Forest) →
      Derives g at symbols kinds nodes → preorder f ≡ nodes → tokens_of f ≡ numbers_from at (length kinds)
  pub within : (shut sought : List ℕ) (f : Forest) (at count : ℕ) → tokens_of f ≡ numbers_from at count →
      All (StandsWithin at (at + count)) (parts_outside shut sought f)
