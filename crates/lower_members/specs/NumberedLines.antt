-- The lines of `.param [n]` of a method, by the numbers that they speak of (ECMA-335 II.15.4.1.4).
use Rattle.std.specs.Prelude.{◌≡◌, ℕ, zero, suc, ◌<◌, ◌==◌, ◌++◌, nat_lt, ⊤, true, if◌then◌else◌, List, [], ◌∷◌, filter, length, slice_index_or, slice_set, take_while}
use Rattle.std.specs.List.{AllByRecursion}
use Rattle.ilasm_grammar.specs.declared.productions.TheConstants.{PARAM_OF_BRACKET}
use Rattle.ilasm_grammar.specs.declared.tree.TreeNode.{TreeNode}
use Rattle.source_model.specs.Forest.{Part, has}
use Rattle.source_model.specs.Items.{Run, is_custom, runs}
use Rattle.source_model.specs.Parameters.{parameter_number, speaks_of_parameter}
use Rattle.source_model.specs.Source.{Source}
use Rattle.source_nodes.specs.Pieces.{ArePieces, AreParts, nodes_of, piece_of, written}
use Rattle.source_nodes.specs.Walk.{IsForest}
use Rattle.lower_members.specs.Ranged.{IsBodyItem}
use Rattle.lower_members.specs.declared.numbered_lines.NumberedLine.{NumberedLine}

-- so many lists without lines
abbrev pub no_lines : ℕ → List (List NumberedLine)
no_lines zero = []
no_lines (suc n) = [] ∷ no_lines n

-- one more line in the list of a number, where there is such a list
abbrev pub appended : List (List NumberedLine) → ℕ → NumberedLine → List (List NumberedLine)
appended bs k x = if nat_lt k (length bs) then slice_set bs k (slice_index_or bs k [] ++ x ∷ []) else bs

-- the lists after an item
abbrev pub with_line : Source → Part → NumberedLine → List (List NumberedLine) → List (List NumberedLine)
with_line s p x bs = if has PARAM_OF_BRACKET p.below then appended bs (parameter_number s p.below) x else bs

-- what was found among the nodes is an item with what follows it
abbrev pub IsLine : List TreeNode → NumberedLine → Type 0
IsLine nodes x = IsForest (nodes_of nodes x.head) × AreParts nodes x.more.now

abbrev pub AreLines : List TreeNode → List NumberedLine → Type 0
AreLines nodes xs = AllByRecursion (IsLine nodes) xs

pub record AllLines (nodes : List TreeNode) (n : ℕ) (bs : List (List NumberedLine)) : Type 0 where
  pub many : length bs ≡ n
  pub each : (k : ℕ) → AreLines nodes (slice_index_or bs k [])

-- it is the head of this run, whose attributes begin what follows it
pub record IsRun (s : Source) (nodes : List TreeNode) (x : NumberedLine) (r : Run) : Type 0 where
  pub head : piece_of nodes x.head ≡ written r.head
  pub behind : List Part
  pub are : ArePieces nodes x.more.now behind
  pub customs : r.customs ≡ take_while is_custom behind
  pub own : IsBodyItem s r.head
  pub each : AllByRecursion (IsBodyItem s) behind
  pub speaks : speaks_of_parameter r ≡ true

abbrev pub AreRuns : Source → List TreeNode → List NumberedLine → List Run → Type 0
AreRuns s nodes [] [] = ⊤
AreRuns s nodes [] (r ∷ rs) = ⊥
AreRuns s nodes (x ∷ xs) [] = ⊥
AreRuns s nodes (x ∷ xs) (r ∷ rs) = IsRun s nodes x r × AreRuns s nodes xs rs

-- the lines among these parts that speak of a parameter
abbrev pub own_lines : Source → ℕ → List Run → List Run
own_lines s k rs = filter (λ r. parameter_number s r.head.below == k) (filter speaks_of_parameter rs)

-- from the return value on, the lines that speak of each number
pub record AreNumbered (s : Source) (nodes : List TreeNode) (n : ℕ) (ps : List Part) (bs : List (List NumberedLine)) : Type 0 where
  pub each : (k : ℕ) → k < n → AreRuns s nodes (slice_index_or bs k []) (own_lines s k (runs ps))
