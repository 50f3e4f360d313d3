-- Where a predictive parser stands between two steps.
use Rattle.std.specs.Prelude.{◌≡◌, ℕ, List, [], ◌∷◌, ◌++◌, take, drop}
use Rattle.ilasm_grammar.specs.declared.symbol.Symbol.{Symbol}
use Rattle.ilasm_grammar.specs.declared.symbol.Symbol.TheVariants.{Nonterminal}
use Rattle.ilasm_grammar.specs.declared.tree.TreeNode.{TreeNode}
use Rattle.ilasm_grammar.specs.Grammar.{Grammar}
use Rattle.ilasm_grammar.specs.Leftmost.{Leftmost}
use Rattle.ilasm_grammar.specs.Choice.{Sets, next_of, AreFollowed, AreProductive}

-- a derivation that begins with these nodes goes on from these symbols
pub record GoesOn (g : Grammar) (at : ℕ) (symbols : List Symbol) (rest : List ℕ) (nodes all : List TreeNode) : Type 0 where
  pub more : List TreeNode
  pub all-is : all ≡ nodes ++ more
  pub derives : Leftmost g at symbols rest more

-- The first `at` kinds are taken, these symbols are still to be derived, and these nodes are made.
pub record IsCourse (g : Grammar) (sets : Sets) (end start : ℕ) (kinds : List ℕ) (at : ℕ) (symbols : List Symbol) (nodes : List TreeNode) : Type 0 where
  -- whatever derives a rest from the symbols completes a derivation from the start
  pub completes : (rest : List ℕ) (more : List TreeNode) → Leftmost g at symbols rest more →
      Leftmost g 0 (Nonterminal start ∷ []) (take at kinds ++ rest) (nodes ++ more)
  -- whatever derivation takes these kinds and then goes on with the same kind as here comes through here
  pub only : (rest : List ℕ) (all : List TreeNode) → next_of end rest ≡ next_of end (drop at kinds) →
      Leftmost g 0 (Nonterminal start ∷ []) (take at kinds ++ rest) all → GoesOn g at symbols rest nodes all
  pub followed : AreFollowed sets symbols
  pub productive : AreProductive g symbols
