-- The exception clauses of a method (ECMA-335 II.15.4.1, II.19, II.25.4.6).
use Rattle.std.specs.Prelude.{ℕ, ◌==◌, if◌then◌else◌, Bool, List, [], ◌∷◌, ◌++◌, map, is_some}
use Rattle.assembly_tree.specs.declared.body.Clause.{Clause}
use Rattle.assembly_tree.specs.declared.body.ClauseKind.{ClauseKind}
use Rattle.assembly_tree.specs.declared.body.ClauseKind.TheVariants as handles
use Rattle.ilasm_grammar.specs.declared.productions.TheConstants.{
  ITEM_TRY,
  TRY_RANGE_BLOCK,
  TRY_RANGE_NAME,
  BLOCK,
  CLAUSE_CATCH,
  CLAUSE_FILTER,
  CLAUSE_FINALLY,
  CLAUSE_FAULT,
  HANDLER_BLOCK,
  HANDLER_HANDLER,
  FILTER_START_NAME,
  FILTER_START_BLOCK,
}
use Rattle.source_model.specs.Forest.{Forest, none, leaf, branch, Part, part, is_among, child, which, leaf_at}
use Rattle.source_model.specs.Instructions.{number_at, label_number}
use Rattle.source_model.specs.Nodes.{Around}
use Rattle.source_model.specs.Source.{Source}
use Rattle.source_model.specs.Types.{the_owner}

-- ---- which there are

abbrev pub clause_forms : List ℕ
clause_forms = CLAUSE_CATCH ∷ CLAUSE_FILTER ∷ CLAUSE_FINALLY ∷ CLAUSE_FAULT ∷ []

-- a clause, with what stands below the `.try` that it belongs to
pub record Guarded : Type 0 where
  pub tried : Forest
  pub clause : Part

-- The clauses of a forest in the order of their last tokens: those within a clause stand before it, and so do those within
-- what it guards. `tried` is what stands below the innermost `.try` around the forest.
abbrev pub guarded_in : Forest → Forest → List Guarded
guarded_in tried none = []
guarded_in tried (leaf token after) = guarded_in tried after
guarded_in tried (branch p below after) =
    (guarded_in (if p == ITEM_TRY then below else tried) below
    ++ (if is_among clause_forms p then record { tried = tried; clause = part p below } ∷ [] else []))
    ++ guarded_in tried after

-- those of a method, from what stands below its production
abbrev pub guarded : Forest → List Guarded
guarded f = guarded_in none f

-- ---- ranges

-- instructions by their numbers, from the first up to the one behind the last
pub record Range : Type 0 where
  pub start : ℕ
  pub end : ℕ

-- a tree with this production stands at the top
abbrev pub stands : ℕ → Forest → Bool
stands production f = is_some (which (production ∷ []) f)

-- what stands below the tree at the top with this production, which holds a block, and below the block
abbrev pub block_in : ℕ → Forest → Forest
block_in production f = child (BLOCK ∷ []) (child (production ∷ []) f)

-- from the opening to the closing brace of a block of the method
abbrev pub scope_range : Forest → Forest → Range
scope_range f block = record { start = number_at f (leaf_at 0 block); end = number_at f (leaf_at 1 block) }

-- from one label to another, by the tokens of their names
abbrev pub label_range : Source → Forest → ℕ → ℕ → Range
label_range s f from to = record { start = label_number s f from; end = label_number s f to }

-- what a `.try` guards, from what stands below its production: a block, or `A to B`
abbrev pub try_range : Source → Forest → Forest → Range
try_range s f tried =
    if stands TRY_RANGE_NAME tried then
    label_range s f (leaf_at 0 (child (TRY_RANGE_NAME ∷ []) tried)) (leaf_at 2 (child (TRY_RANGE_NAME ∷ []) tried))
    else scope_range f (block_in TRY_RANGE_BLOCK tried)

-- the handler of a clause, from what stands below its production: a block, or `handler A to B`
abbrev pub handler_range : Source → Forest → Forest → Range
handler_range s f clause =
    if stands HANDLER_HANDLER clause then
    label_range s f (leaf_at 1 (child (HANDLER_HANDLER ∷ []) clause)) (leaf_at 3 (child (HANDLER_HANDLER ∷ []) clause))
    else scope_range f (block_in HANDLER_BLOCK clause)

-- where the filter of a clause starts: at a label, or at the opening brace of a block
abbrev pub filter_start : Source → Forest → Forest → ℕ
filter_start s f clause =
    if stands FILTER_START_NAME clause then label_number s f (leaf_at 0 (child (FILTER_START_NAME ∷ []) clause))
    else number_at f (leaf_at 0 (block_in FILTER_START_BLOCK clause))

-- ---- clauses

module _ (s : Source) (a : Around) (f : Forest) where
  -- what a clause handles
  abbrev pub clause_kind : Part → ClauseKind
  clause_kind p =
      if p.production == CLAUSE_CATCH then handles.Catch (the_owner s a p.below)
      else if p.production == CLAUSE_FILTER then handles.Filter (filter_start s f p.below)
      else if p.production == CLAUSE_FINALLY then handles.Finally
      else handles.Fault

  abbrev pub clause_from : Range → Range → ClauseKind → Clause
  clause_from tried handler kind = record {
    kind = kind;
    try_start = tried.start;
    try_end = tried.end;
    handler_start = handler.start;
    handler_end = handler.end;
  }

  abbrev pub clause : Guarded → Clause
  clause g = clause_from (try_range s f g.tried) (handler_range s f g.clause.below) (clause_kind g.clause)

  -- the clauses of the method
  abbrev pub clauses : List Clause
  clauses = map clause (guarded f)
