-- Context-free grammars, and what they derive.
use Rattle.std.specs.Prelude.{◌≡◌, ℕ, suc, ◌+◌, ◌<◌, List, [], ◌∷◌, ◌++◌, length, take, Option, Some}
use Rattle.ilasm_grammar.specs.declared.symbol.Symbol.{Symbol}
use Rattle.ilasm_grammar.specs.declared.symbol.Symbol.TheVariants.{Terminal, Nonterminal}
use Rattle.ilasm_grammar.specs.declared.tree.TreeNode.{TreeNode}
use Rattle.ilasm_grammar.specs.declared.tree.TreeNode.TheVariants.{Branch, Leaf}

-- a production: the nonterminal that it may be applied to, and the symbols that it puts in its place
pub record Rule : Type 0 where
  pub head : ℕ
  pub body : List Symbol

abbrev pub rule_of : ℕ → List Symbol → Rule
rule_of head body = record { head = head; body = body }

-- the production with each number, where there is one
abbrev pub Grammar : Type 0
Grammar = ℕ → Option Rule

-- These nodes are the derivations, in preorder and one after another, of the kinds from the symbols.
-- The first kind is that of the token at this place. A leaf has its token's place; a branch has
-- the number of its production, which is applied to its nonterminal, and the number of nodes below it.
pub data Derives (g : Grammar) : ℕ → List Symbol → List ℕ → List TreeNode → Type 0 where
  none : {at : ℕ} → Derives g at [] [] []
  leaf : {at kind : ℕ} {symbols : List Symbol} {kinds : List ℕ} {nodes : List TreeNode} →
      Derives g (suc at) symbols kinds nodes → Derives g at (Terminal kind ∷ symbols) (kind ∷ kinds) (Leaf at ∷ nodes)
  branch : {at head production count : ℕ} {body symbols : List Symbol} {front back kinds : List ℕ} {below after nodes : List TreeNode} →
      g production ≡ Some (record { head = head; body = body }) → Derives g at body front below → Derives g (at + length front) symbols back after →
      count ≡ length below → kinds ≡ front ++ back → nodes ≡ below ++ after →
      Derives g at (Nonterminal head ∷ symbols) kinds (Branch production count ∷ nodes)

-- the kinds are a sentence: the start symbol derives them
abbrev pub IsSentence : Grammar → ℕ → List ℕ → Type 0
IsSentence g start kinds = (tree : List TreeNode) × Derives g 0 (Nonterminal start ∷ []) kinds tree

-- the kinds are a prefix of some sentence
abbrev pub IsViable : Grammar → ℕ → List ℕ → Type 0
IsViable g start kinds = (more : List ℕ) × IsSentence g start (kinds ++ more)

-- The syntax fault of the kinds stands at place k: the first k of them are a prefix of some sentence, and the first k + 1
-- are a prefix of none. Where all of them are a prefix of a sentence and no sentence, it stands behind the last.
pub data IsFaultAt (g : Grammar) (start : ℕ) (kinds : List ℕ) : ℕ → Type 0 where
  token : {k : ℕ} → k < length kinds → IsViable g start (take k kinds) → (IsViable g start (take (suc k) kinds) → ⊥) → IsFaultAt g start kinds k
  end : {k : ℕ} → k ≡ length kinds → IsViable g start kinds → (IsSentence g start kinds → ⊥) → IsFaultAt g start kinds k
