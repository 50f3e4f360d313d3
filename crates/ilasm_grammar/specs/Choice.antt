-- What one token tells about the production to apply.
use Rattle.std.specs.Prelude.{◌≡◌, ℕ, ◌+◌, ◌<◌, List, [], ◌∷◌, Bool, true, Some, if◌then◌else◌}
use Rattle.ilasm_grammar.specs.declared.symbol.Symbol.{Symbol}
use Rattle.ilasm_grammar.specs.declared.symbol.Symbol.TheVariants.{Terminal, Nonterminal}
use Rattle.ilasm_grammar.specs.declared.tree.TreeNode.{TreeNode}
use Rattle.ilasm_grammar.specs.Grammar.{Grammar}
use Rattle.ilasm_grammar.specs.Leftmost.{Leftmost}

-- the first kind of a list, or the number that stands for its end
abbrev pub next_of : ℕ → List ℕ → ℕ
next_of end [] = end
next_of end (kind ∷ kinds) = kind

-- For each nonterminal: the kinds that what it derives may begin with, those that may stand behind it, whether it derives
-- nothing, and a weight that is above that of what any of its productions puts in its place.
pub record Sets : Type 0 where
  pub first : ℕ → ℕ → Bool
  pub follow : ℕ → ℕ → Bool
  pub nullable : ℕ → Bool
  pub weight : ℕ → ℕ

-- by the sets, the symbols may derive nothing
pub data Vanishes (sets : Sets) : List Symbol → Type 0 where
  none : Vanishes sets []
  past : {n : ℕ} {symbols : List Symbol} → sets.nullable n ≡ true → Vanishes sets symbols → Vanishes sets (Nonterminal n ∷ symbols)

-- by the sets, what the symbols derive may begin with the kind
pub data Starts (sets : Sets) : List Symbol → ℕ → Type 0 where
  here : {kind : ℕ} {symbols : List Symbol} → Starts sets (Terminal kind ∷ symbols) kind
  inside : {n kind : ℕ} {symbols : List Symbol} → sets.first n kind ≡ true → Starts sets (Nonterminal n ∷ symbols) kind
  behind : {n kind : ℕ} {symbols : List Symbol} → sets.nullable n ≡ true → Starts sets symbols kind → Starts sets (Nonterminal n ∷ symbols) kind

-- what the symbols behind each nonterminal begin with may follow it
pub data AreFollowed (sets : Sets) : List Symbol → Type 0 where
  none : AreFollowed sets []
  terminal : {kind : ℕ} {symbols : List Symbol} → AreFollowed sets symbols → AreFollowed sets (Terminal kind ∷ symbols)
  nonterminal : {n : ℕ} {symbols : List Symbol} → ((kind : ℕ) → Starts sets symbols kind → sets.follow n kind ≡ true) →
      AreFollowed sets symbols → AreFollowed sets (Nonterminal n ∷ symbols)

-- the same of a body of the nonterminal `head`: where nothing need stand behind one of its nonterminals, what may follow `head` may follow it
pub data AreFollowedIn (sets : Sets) (head : ℕ) : List Symbol → Type 0 where
  none : AreFollowedIn sets head []
  terminal : {kind : ℕ} {symbols : List Symbol} → AreFollowedIn sets head symbols → AreFollowedIn sets head (Terminal kind ∷ symbols)
  nonterminal : {n : ℕ} {symbols : List Symbol} → ((kind : ℕ) → Starts sets symbols kind → sets.follow n kind ≡ true) →
      (Vanishes sets symbols → (kind : ℕ) → sets.follow head kind ≡ true → sets.follow n kind ≡ true) →
      AreFollowedIn sets head symbols → AreFollowedIn sets head (Nonterminal n ∷ symbols)

-- the weights of the symbols up to the first that doesn't derive nothing
unfoldable pub load_of : Sets → List Symbol → ℕ
load_of sets [] = 0
load_of sets (Terminal kind ∷ symbols) = 0
load_of sets (Nonterminal n ∷ symbols) = sets.weight n + (if sets.nullable n then load_of sets symbols else 0)

-- a derivation of some kinds, wherever they stand
pub record IsProductive (g : Grammar) (symbols : List Symbol) (at : ℕ) : Type 0 where
  pub kinds : List ℕ
  pub nodes : List TreeNode
  pub derives : Leftmost g at symbols kinds nodes

-- each of the symbols derives something
pub data AreProductive (g : Grammar) : List Symbol → Type 0 where
  none : AreProductive g []
  terminal : {kind : ℕ} {symbols : List Symbol} → AreProductive g symbols → AreProductive g (Terminal kind ∷ symbols)
  nonterminal : {n : ℕ} {symbols : List Symbol} → ((at : ℕ) → IsProductive g (Nonterminal n ∷ []) at) → AreProductive g symbols →
      AreProductive g (Nonterminal n ∷ symbols)

-- The grammar's table, in which `picked n kind` is the production that nonterminal n goes on with before this kind, or before the
-- end, whose number is `end`: every choice is decided by one token.
pub record IsDecided (g : Grammar) (sets : Sets) (picked : ℕ → ℕ → ℕ) (end : ℕ) : Type 0 where
  pub vanishes : {p n : ℕ} {body : List Symbol} → g p ≡ Some (record { head = n; body = body }) → Vanishes sets body → sets.nullable n ≡ true
  pub starts : {p n kind : ℕ} {body : List Symbol} → g p ≡ Some (record { head = n; body = body }) → Starts sets body kind → sets.first n kind ≡ true
  pub followed : {p n : ℕ} {body : List Symbol} → g p ≡ Some (record { head = n; body = body }) → AreFollowedIn sets n body
  pub by_first : {p n kind : ℕ} {body : List Symbol} → g p ≡ Some (record { head = n; body = body }) → Starts sets body kind → picked n kind ≡ p
  pub by_follow : {p n kind : ℕ} {body : List Symbol} → g p ≡ Some (record { head = n; body = body }) → Vanishes sets body →
      sets.follow n kind ≡ true → picked n kind ≡ p
  pub by_end : {p n : ℕ} {body : List Symbol} → g p ≡ Some (record { head = n; body = body }) → Vanishes sets body → picked n end ≡ p
  pub lighter : {p n : ℕ} {body : List Symbol} → g p ≡ Some (record { head = n; body = body }) → load_of sets body < sets.weight n
  pub productive : {p n : ℕ} {body : List Symbol} → g p ≡ Some (record { head = n; body = body }) → AreProductive g body
