-- A piece of a listing as a derivation: what grows from symbols, and the nodes of its tree.
use Rattle.std.specs.Prelude.{ℕ, suc, ◌+◌, ◌≡◌, List, [], ◌∷◌, ◌++◌, length, map, option_map, Option, None, Some, ⊤}
use Rattle.ilasm_grammar.specs.Grammar.{Rule}
use Rattle.ilasm_grammar.specs.Ilasm.{ilasm}
use Rattle.ilasm_grammar.specs.Terminals.{terminal_of}
use Rattle.ilasm_grammar.specs.declared.symbol.Symbol.{Symbol}
use Rattle.ilasm_grammar.specs.declared.symbol.Symbol.TheVariants.{Terminal, Nonterminal}
use Rattle.ilasm_grammar.specs.declared.tree.TreeNode.{TreeNode}
use Rattle.ilasm_grammar.specs.declared.tree.TreeNode.TheVariants.{Branch, Leaf}
use Rattle.listing_model.specs.Shown.{Shown, none, leaf, branch, leaves, size}

-- the nonterminal that a production is applied to, and the symbols that it puts in its place
abbrev pub head_of : ℕ → Option ℕ
head_of p = option_map (λ (r : Rule). r.head) (ilasm p)

abbrev pub body_in : Option Rule → List Symbol
body_in None = []
body_in (Some r) = r.body

abbrev pub body_of : ℕ → List Symbol
body_of p = body_in (ilasm p)

-- Trees grow from symbols: each leaf is of its terminal, and each production is one of its nonterminal and stands over its body.
abbrev pub Grows : List Symbol → Shown → Type 0
Grows [] none = ⊤
Grows [] (leaf l after) = ⊥
Grows [] (branch p below after) = ⊥
Grows (Terminal t ∷ more) none = ⊥
Grows (Terminal t ∷ more) (leaf l after) = (terminal_of l.kind ≡ t) × Grows more after
Grows (Terminal t ∷ more) (branch p below after) = ⊥
Grows (Nonterminal n ∷ more) none = ⊥
Grows (Nonterminal n ∷ more) (leaf l after) = ⊥
Grows (Nonterminal n ∷ more) (branch p below after) = (head_of p ≡ Some n) × Grows (body_of p) below × Grows more after

-- its terminals, and its nodes in preorder, the first leaf being the token with this number
abbrev pub terminals : Shown → List ℕ
terminals g = map (λ l. terminal_of l.kind) (leaves g)

abbrev pub nodes : ℕ → Shown → List TreeNode
nodes at none = []
nodes at (leaf l after) = Leaf at ∷ nodes (suc at) after
nodes at (branch p below after) = Branch p (length (nodes at below)) ∷ (nodes at below ++ nodes (at + size below) after)
