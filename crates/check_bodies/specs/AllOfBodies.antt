-- All rules that the bodies of methods must meet, one after another.
use Rattle.std.specs.Prelude.{ℕ, List, [], ◌∷◌, ◌++◌, filter, if◌then◌else◌, not}
use Rattle.std.specs.List.{enumerate_from, flat_map}
use Rattle.ilasm_grammar.specs.declared.productions.TheConstants.{INSTRUCTION_OP_VAR, METHOD}
use Rattle.source_model.specs.BodyFaults.{body_numbers_out_of_range, branch_too_far, branches_to_the_end, branches_too_far, clause_backwards, clauses_backwards, is_same_name, label_names, labels_twice, labels_undeclared, targets_at_the_end, variable_undeclared, variables_undeclared}
use Rattle.source_model.specs.BodyNumbers.{body_numbers_out_of_range_in}
use Rattle.source_model.specs.Clauses.{guarded}
use Rattle.source_model.specs.DeclaredTwice.{repeats}
use Rattle.source_model.specs.Forest.{is_among}
use Rattle.source_model.specs.Instructions.{instructions_of, instructions_with, is_label, labels}
use Rattle.source_model.specs.Nodes.{Node}
use Rattle.source_model.specs.Source.{Source}

-- the tokens at which the bodies of a source break a rule
abbrev pub broken_in_bodies : Source → List ℕ
broken_in_bodies s =
    labels_twice s ++ labels_undeclared s ++ variables_undeclared s ++ body_numbers_out_of_range s ++ branches_too_far s
    ++ clauses_backwards s ++ branches_to_the_end s

-- ---- the same of one method

module _ (s : Source) (n : Node) where
  abbrev pub twice_in : List ℕ
  twice_in = repeats (is_same_name s) (labels n.below)

  abbrev pub undeclared_in : List ℕ
  undeclared_in = filter (λ k. not (is_label s n.below k)) (label_names n.below)

  abbrev pub variables_in : List ℕ
  variables_in = flat_map (variable_undeclared s n.below) (instructions_with INSTRUCTION_OP_VAR n.below)

  abbrev pub far_in : List ℕ
  far_in = flat_map (branch_too_far s n) (enumerate_from 0 (instructions_of n.below))

  abbrev pub backwards_in : List ℕ
  backwards_in = flat_map (clause_backwards s n) (guarded n.below)

  abbrev pub ends_in : List ℕ
  ends_in = flat_map (targets_at_the_end s n.below) (instructions_of n.below)

  abbrev pub broken_in : List ℕ
  broken_in =
      twice_in ++ undeclared_in ++ variables_in ++ body_numbers_out_of_range_in s n ++ far_in ++ backwards_in ++ ends_in

-- the same at any production: only at that of a method
abbrev pub body_broken : Source → Node → List ℕ
body_broken s n = if is_among (METHOD ∷ []) n.production then broken_in s n else []
