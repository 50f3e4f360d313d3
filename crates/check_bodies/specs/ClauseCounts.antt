-- The clauses of a method in the order of their last tokens, and how many more may stand (ECMA-335 II.19).
use Rattle.std.specs.Prelude.{ℕ, zero, suc, List, [], ◌∷◌, ◌++◌, if◌then◌else◌, Result, Ok, Err}
use Rattle.source_model.specs.Clauses.{clause_forms}
use Rattle.source_model.specs.Forest.{Forest, none, leaf, branch, first_token, is_among}

-- what stands below each clause of a forest, those within another one before it
abbrev pub clauses_in : Forest → List Forest
clauses_in none = []
clauses_in (leaf token after) = clauses_in after
clauses_in (branch p below after) = (clauses_in below ++ (if is_among clause_forms p then below ∷ [] else [])) ++ clauses_in after

-- where so many may stand, how many more than these; else the first token of the first past that
abbrev pub clauses_left : ℕ → List Forest → Result ℕ ℕ
clauses_left n [] = Ok n
clauses_left zero (f ∷ fs) = Err (first_token f)
clauses_left (suc n) (f ∷ fs) = clauses_left n fs
