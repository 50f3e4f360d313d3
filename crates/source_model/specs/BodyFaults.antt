-- The rules on labels, variables, branches and clauses, each with the tokens at which it is broken (ECMA-335 II.5.4,
-- II.15.4.1, II.19, III.1.7.2, III.3.15).
use Rattle.std.specs.Prelude.{ℕ, ◌==◌, ◌&&◌, Bool, not, if◌then◌else◌, List, [], ◌∷◌, length, filter, bytes_eq, is_some}
use Rattle.std.specs.List.{flat_map, enumerate_from}
use Rattle.assembly_tree.specs.WellFormedBodies.{reaches, is_forward}
use Rattle.ilasm_grammar.specs.declared.productions.TheConstants.{
  METHOD,
  INSTRUCTION_OP_VAR,
  INSTRUCTION_OP_BRANCH,
  INSTRUCTION_SWITCH,
  INDEX_NAME,
  TRY_RANGE_NAME,
  HANDLER_HANDLER,
  FILTER_START_NAME,
}
use Rattle.source_model.specs.Bodies.{code}
pub use Rattle.source_model.specs.BodyNumbers.{body_numbers_out_of_range}
use Rattle.source_model.specs.Clauses.{Guarded, guarded, clause}
use Rattle.source_model.specs.DeclaredTwice.{repeats}
use Rattle.source_model.specs.Forest.{Forest, Part, parts, has, leaf_at, first_token}
use Rattle.source_model.specs.Instructions.{instructions_of, instructions_with, op_of, labels, is_label, label_number, targets}
use Rattle.source_model.specs.Nodes.{Node, nodes, nodes_of}
use Rattle.source_model.specs.Operands.{instruction}
use Rattle.source_model.specs.Source.{Source}
use Rattle.source_model.specs.Values.{name_text}
use Rattle.source_model.specs.Variables.{variable_named, variable_token}

-- the methods of a source
abbrev pub all_methods : Source → List Node
all_methods s = nodes_of (METHOD ∷ []) (nodes s)

-- ---- labels

-- a label with the name of an earlier one of its method: its name
abbrev pub is_same_name : Source → ℕ → ℕ → Bool
is_same_name s j k = bytes_eq (name_text s j) (name_text s k)

abbrev pub labels_twice : Source → List ℕ
labels_twice s = flat_map (λ n. repeats (is_same_name s) (labels n.below)) (all_methods s)

-- the names that stand for labels: behind a branch and in the parentheses of `switch`, in `A to B`, in `handler A to B`, and
-- behind `filter`
abbrev pub label_names_in : Part → List ℕ
label_names_in p =
    if p.production == TRY_RANGE_NAME then leaf_at 0 p.below ∷ leaf_at 2 p.below ∷ []
    else if p.production == HANDLER_HANDLER then leaf_at 1 p.below ∷ leaf_at 3 p.below ∷ []
    else if p.production == FILTER_START_NAME then leaf_at 0 p.below ∷ []
    else targets p

abbrev pub label_names : Forest → List ℕ
label_names f =
    flat_map label_names_in
    (parts (INSTRUCTION_OP_BRANCH ∷ INSTRUCTION_SWITCH ∷ TRY_RANGE_NAME ∷ HANDLER_HANDLER ∷ FILTER_START_NAME ∷ []) f)

-- those that no label of the method has
abbrev pub labels_undeclared : Source → List ℕ
labels_undeclared s = flat_map (λ n. filter (λ k. not (is_label s n.below k)) (label_names n.below)) (all_methods s)

-- ---- arguments and locals

-- the name of a variable in an instruction, where no parameter or no local of the method has it
abbrev pub variable_undeclared : Source → Forest → Part → List ℕ
variable_undeclared s f p =
    if has INDEX_NAME p.below && not (is_some (variable_named s f (op_of s p) (variable_token p)))
    then variable_token p ∷ []
    else []

abbrev pub variables_undeclared : Source → List ℕ
variables_undeclared s =
    flat_map (λ n. flat_map (variable_undeclared s n.below) (instructions_with INSTRUCTION_OP_VAR n.below)) (all_methods s)

-- ---- branches

-- the labels behind an instruction that the method has
abbrev pub declared_targets : Source → Forest → Part → List ℕ
declared_targets s f p = filter (is_label s f) (targets p)

-- the label behind a short branch from which one signed byte doesn't lead to it
abbrev pub branch_too_far : Source → Node → ℕ × Part → List ℕ
branch_too_far s n (k, p) =
    if reaches (code s n.around n.below) (k, instruction s n.around n.below p) then [] else declared_targets s n.below p

abbrev pub branches_too_far : Source → List ℕ
branches_too_far s = flat_map (λ n. flat_map (branch_too_far s n) (enumerate_from 0 (instructions_of n.below))) (all_methods s)

-- a label behind a branch that no instruction follows
abbrev pub targets_at_the_end : Source → Forest → Part → List ℕ
targets_at_the_end s f p = filter (λ k. label_number s f k == length (instructions_of f)) (declared_targets s f p)

abbrev pub branches_to_the_end : Source → List ℕ
branches_to_the_end s = flat_map (λ n. flat_map (targets_at_the_end s n.below) (instructions_of n.below)) (all_methods s)

-- ---- clauses

-- a clause of which the guarded range or the handler is empty or backwards, or whose filter doesn't start before its handler:
-- its first token
abbrev pub clause_backwards : Source → Node → Guarded → List ℕ
clause_backwards s n g = if is_forward (clause s n.around n.below g) then [] else first_token g.clause.below ∷ []

abbrev pub clauses_backwards : Source → List ℕ
clauses_backwards s = flat_map (λ n. flat_map (clause_backwards s n) (guarded n.below)) (all_methods s)
