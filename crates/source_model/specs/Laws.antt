-- What follows of the definitions.
use Rattle.std.specs.Prelude.{◌≡◌, ℕ, ◌<◌, ◌≤◌, ◌⊎◌, false, List, [], ◌∷◌, ◌++◌, length, take, drop, slice_index_or, Contains, None, Some}
use Rattle.il_base.specs.declared.pos.Pos.{Pos}
use Rattle.ilasm_grammar.specs.Grammar.{Grammar, Derives}
use Rattle.ilasm_grammar.specs.declared.symbol.Symbol.{Symbol}
use Rattle.ilasm_grammar.specs.declared.tree.TreeNode.{TreeNode}
use Rattle.ilasm_grammar.specs.declared.tree.TreeNode.TheVariants.{Branch, Leaf}
use Rattle.assembly_tree.specs.declared.assembly.Assembly.{Assembly}
use Rattle.source_model.specs.declared.fault.NameClass.{NameClass}
use Rattle.source_model.specs.Classes.{assembly}
use Rattle.source_model.specs.Denotes.{Denotes, HasNameFault, IsRead}
use Rattle.source_model.specs.Faults.{Broken, earlier, earliest, is_before}
use Rattle.source_model.specs.Forest.{Forest, none, leaf, branch, preorder, tokens_of, leaves, parts_outside, joined}
use Rattle.source_model.specs.Nodes.{Around, nodes_in}
use Rattle.source_model.specs.Source.{Source}

-- a forest whose nodes begin with this branch: below it stand as many nodes as it says, and after it the others
pub record BeginsWithBranch (f : Forest) (p count : ℕ) (nodes : List TreeNode) : Type 0 where
  pub below : Forest
  pub after : Forest
  pub is : f ≡ branch p below after
  pub within : count ≤ length nodes
  pub inner : preorder below ≡ take count nodes
  pub rest : preorder after ≡ drop count nodes

-- a forest whose nodes begin with this leaf
pub record BeginsWithLeaf (f : Forest) (token : ℕ) (nodes : List TreeNode) : Type 0 where
  pub after : Forest
  pub is : f ≡ leaf token after
  pub rest : preorder after ≡ nodes

-- What the nodes of a forest say of it, for whoever walks them.
pub record ForestOpens : Type 0 where
  pub none : (f : Forest) → preorder f ≡ [] → f ≡ none
  pub leaf : (f : Forest) (token : ℕ) (nodes : List TreeNode) → preorder f ≡ Leaf token ∷ nodes → BeginsWithLeaf f token nodes
  pub branch : (f : Forest) (p count : ℕ) (nodes : List TreeNode) →
      preorder f ≡ Branch p count ∷ nodes → BeginsWithBranch f p count nodes

-- What is looked for in two forests, one after the other, is what is found in each. So whoever walks the nodes in preorder may
-- go from a branch to the forest that stands below it, joined with that after it.
pub record ForestsJoin : Type 0 where
  pub nodes : (f g : Forest) → preorder (joined f g) ≡ preorder f ++ preorder g
  pub tokens : (f g : Forest) → tokens_of (joined f g) ≡ tokens_of f ++ tokens_of g
  pub leaves : (f g : Forest) → leaves (joined f g) ≡ leaves f ++ leaves g
  pub parts : (shut sought : List ℕ) (f g : Forest) →
      parts_outside shut sought (joined f g) ≡ parts_outside shut sought f ++ parts_outside shut sought g
  pub productions : (s : Source) (a : Around) (f g : Forest) → nodes_in s a (joined f g) ≡ nodes_in s a f ++ nodes_in s a g

-- the nodes of a derivation are the preorder of a forest, and of one forest alone
pub record OneForest : Type 0 where
  pub some : (g : Grammar) (at : ℕ) (symbols : List Symbol) (kinds : List ℕ) (nodes : List TreeNode) →
      Derives g at symbols kinds nodes → (f : Forest) × (preorder f ≡ nodes)
  pub one : (f g : Forest) → preorder f ≡ preorder g → f ≡ g

-- The first of what is broken is among it, nothing of it stands before it, and where there is none nothing is broken; and the
-- first of two lists is the first of their firsts, so that rules can be asked one by one.
pub record FirstIsLeast : Type 0 where
  pub none : (all : List Broken) → earliest all ≡ None → all ≡ []
  pub among : (all : List Broken) (x : Broken) → earliest all ≡ Some x → Contains all x
  pub least : (all : List Broken) (x y : Broken) (k : ℕ) → earliest all ≡ Some x → k < length all → is_before (slice_index_or all k y) x ≡ false
  pub joined : (xs ys : List Broken) → earliest (xs ++ ys) ≡ earlier (earliest xs) (earliest ys)

-- a source denotes one assembly at most, has one fault at most, and not both
pub record OneMeaning : Type 0 where
  pub assembly : (source : List ℕ) (a b : Assembly) → Denotes source a → Denotes source b → a ≡ b
  pub fault : (source : List ℕ) (p q : Pos) (c d : NameClass) (r t : ℕ) →
      HasNameFault source p c r → HasNameFault source q d t → (p ≡ q) × (c ≡ d) × (r ≡ t)
  pub apart : (source : List ℕ) (a : Assembly) (p : Pos) (c : NameClass) (r : ℕ) → Denotes source a → HasNameFault source p c r → ⊥

pub record HasSomeFault (source : List ℕ) : Type 0 where
  pub place : Pos
  pub class : NameClass
  pub rule : ℕ
  pub fault : HasNameFault source place class rule

-- a source that has tokens and a derivation denotes what it says, or has a fault
abbrev pub HasMeaning : Type 0
HasMeaning = (source : List ℕ) (s : Source) → IsRead source s → Denotes source (assembly s) ⊎ HasSomeFault source
