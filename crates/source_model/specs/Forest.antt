-- The derivation of a source as a forest: trees one after another, each a token or a production with what it was
-- applied to (ECMA-335 II.5.1).
use Rattle.std.specs.Prelude.{ℕ, ◌==◌, Bool, true, false, if◌then◌else◌, List, [], ◌∷◌, ◌++◌, length, Option, Some, None, slice_index_or}
use Rattle.std.specs.List.{list_any}
use Rattle.ilasm_grammar.specs.declared.tree.TreeNode.{TreeNode}
use Rattle.ilasm_grammar.specs.declared.tree.TreeNode.TheVariants.{Branch, Leaf}

-- A token, by its place in the list of tokens, or a production, by its place in the table, with the forest below it; and
-- in either case the trees after it.
pub data Forest : Type 0 where
  none : Forest
  leaf : (token : ℕ) (after : Forest) → Forest
  branch : (production : ℕ) (below after : Forest) → Forest

-- the forest's nodes in preorder, each branch with the number of nodes below it
abbrev pub preorder : Forest → List TreeNode
preorder none = []
preorder (leaf token after) = Leaf token ∷ preorder after
preorder (branch production below after) = Branch production (length (preorder below)) ∷ (preorder below ++ preorder after)

-- ---- the tokens of a forest

-- all its tokens, from left to right
abbrev pub tokens_of : Forest → List ℕ
tokens_of none = []
tokens_of (leaf token after) = token ∷ tokens_of after
tokens_of (branch production below after) = tokens_of below ++ tokens_of after

-- the tokens that stand at its top, below no production
abbrev pub leaves : Forest → List ℕ
leaves none = []
leaves (leaf token after) = token ∷ leaves after
leaves (branch production below after) = leaves after

-- one of the tokens at its top, counted from 0
abbrev pub leaf_at : ℕ → Forest → ℕ
leaf_at k f = slice_index_or (leaves f) k 0

-- its first token
abbrev pub first_token : Forest → ℕ
first_token f = slice_index_or (tokens_of f) 0 0

abbrev pub last_of : ℕ → List ℕ → ℕ
last_of k [] = k
last_of k (next ∷ more) = last_of next more

-- its last token
abbrev pub last_token : Forest → ℕ
last_token f = last_of 0 (tokens_of f)

-- ---- its parts, by their productions

-- a production with what stands below it
pub record Part : Type 0 where
  pub production : ℕ
  pub below : Forest

abbrev pub part : ℕ → Forest → Part
part production below = record { production = production; below = below }

-- one of these productions
abbrev pub is_among : List ℕ → ℕ → Bool
is_among productions p = list_any (λ q. q == p) productions

-- The parts of these productions, from left to right, and none that stands within one of them or within one of the shut
-- productions.
abbrev pub parts_outside : List ℕ → List ℕ → Forest → List Part
parts_outside shut sought none = []
parts_outside shut sought (leaf token after) = parts_outside shut sought after
parts_outside shut sought (branch p below after) =
    (if is_among sought p then part p below ∷ [] else if is_among shut p then [] else parts_outside shut sought below)
    ++ parts_outside shut sought after

-- the parts of these productions, and none that stands within one of them
abbrev pub parts : List ℕ → Forest → List Part
parts sought f = parts_outside [] sought f

-- what stands below each part of this production
abbrev pub below_each : List Part → List Forest
below_each [] = []
below_each (p ∷ ps) = p.below ∷ below_each ps

abbrev pub each : ℕ → Forest → List Forest
each p f = below_each (parts (p ∷ []) f)

abbrev pub first_or : Forest → List Forest → Forest
first_or other [] = other
first_or other (f ∷ fs) = f

-- what stands below the first part of this production, if there is one
abbrev pub the : ℕ → Forest → Forest
the p f = first_or none (each p f)

abbrev pub is_any_part : List Part → Bool
is_any_part [] = false
is_any_part (p ∷ ps) = true

-- there is a part of this production
abbrev pub has : ℕ → Forest → Bool
has p f = is_any_part (parts (p ∷ []) f)

-- What stands below the first of the trees at the top that has one of these productions.
abbrev pub child : List ℕ → Forest → Forest
child sought none = none
child sought (leaf token after) = child sought after
child sought (branch p below after) = if is_among sought p then below else child sought after

-- The production of the first of the trees at the top that is one of these; the number of productions where there is none.
abbrev pub which : List ℕ → Forest → Option ℕ
which sought none = None
which sought (leaf token after) = which sought after
which sought (branch p below after) = if is_among sought p then Some p else which sought after

-- the trees at the top that have one of these productions
abbrev pub chosen : List ℕ → Forest → Forest
chosen sought none = none
chosen sought (leaf token after) = chosen sought after
chosen sought (branch p below after) = if is_among sought p then branch p below (chosen sought after) else chosen sought after

-- the trees of one forest and then those of another
abbrev pub joined : Forest → Forest → Forest
joined none g = g
joined (leaf token after) g = leaf token (joined after g)
joined (branch p below after) g = branch p below (joined after g)
