-- Derivations in the order of a leftmost one: a production that is applied puts its body in front of the symbols that follow, so that
-- nothing is split. Counts stay 0.
use Rattle.std.specs.Prelude.{◌≡◌, ℕ, suc, List, [], ◌∷◌, ◌++◌, Some}
use Rattle.ilasm_grammar.specs.declared.symbol.Symbol.{Symbol}
use Rattle.ilasm_grammar.specs.declared.symbol.Symbol.TheVariants.{Terminal, Nonterminal}
use Rattle.ilasm_grammar.specs.declared.tree.TreeNode.{TreeNode}
use Rattle.ilasm_grammar.specs.declared.tree.TreeNode.TheVariants.{Branch, Leaf}
use Rattle.ilasm_grammar.specs.Grammar.{Grammar}

-- the nodes with each count taken away
abbrev pub erased : List TreeNode → List TreeNode
erased [] = []
erased (Leaf at ∷ nodes) = Leaf at ∷ erased nodes
erased (Branch production count ∷ nodes) = Branch production 0 ∷ erased nodes

pub data Leftmost (g : Grammar) : ℕ → List Symbol → List ℕ → List TreeNode → Type 0 where
  done : {at : ℕ} → Leftmost g at [] [] []
  shift : {at kind : ℕ} {symbols : List Symbol} {kinds : List ℕ} {nodes : List TreeNode} →
      Leftmost g (suc at) symbols kinds nodes → Leftmost g at (Terminal kind ∷ symbols) (kind ∷ kinds) (Leaf at ∷ nodes)
  apply : {at head production count : ℕ} {body symbols : List Symbol} {kinds : List ℕ} {nodes : List TreeNode} →
      g production ≡ Some (record { head = head; body = body }) → Leftmost g at (body ++ symbols) kinds nodes → count ≡ 0 →
      Leftmost g at (Nonterminal head ∷ symbols) kinds (Branch production count ∷ nodes)
