-- Facts of a grammar that its parser rests on, in the terms of its derivations.
use Rattle.std.specs.Prelude.{◌≡◌, ℕ, ◌+◌, ◌≤◌, List, [], ◌∷◌, ◌++◌, length, take, drop, Some}
use Rattle.ilasm_grammar.specs.declared.symbol.Symbol.{Symbol}
use Rattle.ilasm_grammar.specs.declared.symbol.Symbol.TheVariants.{Nonterminal}
use Rattle.ilasm_grammar.specs.declared.tree.TreeNode.{TreeNode}
use Rattle.ilasm_grammar.specs.Grammar.{rule_of, Grammar, Derives}

-- the symbols derive these kinds
abbrev pub Spells : Grammar → List Symbol → List ℕ → Type 0
Spells g symbols kinds = (nodes : List TreeNode) × Derives g 0 symbols kinds nodes

-- the symbols derive something that begins with this kind
abbrev pub Begins : Grammar → List Symbol → ℕ → Type 0
Begins g symbols kind = (more : List ℕ) × Spells g symbols (kind ∷ more)

-- the nonterminal stands in a body, and these symbols behind it
pub record StandsIn (body : List Symbol) (n : ℕ) (behind : List Symbol) : Type 0 where
  pub front : List Symbol
  pub is : body ≡ front ++ (Nonterminal n ∷ behind)

-- in a derivation from any nonterminal, this kind may stand behind nonterminal n
pub data MayFollow (g : Grammar) : ℕ → ℕ → Type 0 where
  beside : {p n head kind : ℕ} {body behind : List Symbol} → g p ≡ Some (rule_of head body) → StandsIn body n behind →
      Begins g behind kind → MayFollow g n kind
  above : {p n head kind : ℕ} {body behind : List Symbol} → g p ≡ Some (rule_of head body) → StandsIn body n behind →
      Spells g behind [] → MayFollow g head kind → MayFollow g n kind

-- every choice of a production is decided by the next kind
pub record IsDecidedByOne (g : Grammar) : Type 0 where
  -- no two productions of a nonterminal begin with the same kind
  pub begins : {p q n kind : ℕ} {body other : List Symbol} → g p ≡ Some (rule_of n body) → g q ≡ Some (rule_of n other) →
      Begins g body kind → Begins g other kind → p ≡ q
  -- at most one of them derives nothing
  pub vanishes : {p q n : ℕ} {body other : List Symbol} → g p ≡ Some (rule_of n body) → g q ≡ Some (rule_of n other) →
      Spells g body [] → Spells g other [] → p ≡ q
  -- where one derives nothing, none begins with a kind that may follow
  pub follows : {p q n kind : ℕ} {body other : List Symbol} → g p ≡ Some (rule_of n body) → g q ≡ Some (rule_of n other) →
      Spells g body [] → Begins g other kind → MayFollow g n kind → p ≡ q

-- productions lead from the start to the nonterminal
pub data IsReached (g : Grammar) (start : ℕ) : ℕ → Type 0 where
  here : IsReached g start start
  through : {p n head : ℕ} {body behind : List Symbol} → IsReached g start head → g p ≡ Some (rule_of head body) → StandsIn body n behind → IsReached g start n

-- A branch, opened: the nodes below it are the derivations of the body, the first of them the very next, and the nodes after those are the
-- derivations of the symbols behind the nonterminal.
pub record IsOpened (g : Grammar) (at n p count : ℕ) (symbols : List Symbol) (kinds : List ℕ) (nodes : List TreeNode) : Type 0 where
  pub body : List Symbol
  pub front : List ℕ
  pub back : List ℕ
  pub rule : g p ≡ Some (rule_of n body)
  pub kinds-is : kinds ≡ front ++ back
  pub within : count ≤ length nodes
  pub below : Derives g at body front (take count nodes)
  pub after : Derives g (at + length front) symbols back (drop count nodes)
