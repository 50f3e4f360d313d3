-- The instructions of a method and its labels, and whether nothing else of a body stands in it (ECMA-335 II.5.4, II.15.4.1).
use Rattle.std.specs.Prelude.{◌≡◌, ℕ, Bool, true, List, [], ◌∷◌, if◌then◌else◌}
use Rattle.std.specs.List.{flat_map}
use Rattle.ilasm_grammar.specs.declared.productions.TheConstants.{
  CALL_CONV,
  CLAUSE_CATCH,
  CLAUSE_FAULT,
  CLAUSE_FILTER,
  CLAUSE_FINALLY,
  DEF_ARGS_OPT_SOME,
  FILTER_START_NAME,
  HANDLER_HANDLER,
  IMPL_ATTR_STAR_MORE,
  ITEM_MAXSTACK,
  ITEM_NAME,
  LOCAL,
  METHOD_ATTR_STAR_MORE,
  TRY_RANGE_NAME,
  TYPE,
}
use Rattle.ilasm_grammar.specs.declared.tree.TreeNode.{TreeNode}
use Rattle.source_model.specs.BodyFaults.{label_names}
use Rattle.source_model.specs.Forest.{Forest, is_among}
use Rattle.source_model.specs.Instructions.{instruction_forms, instructions_of, labels, targets}
use Rattle.source_nodes.specs.Pieces.{ArePieces}
use Rattle.check_bodies.specs.PlainBodies.{is_plain}
use Rattle.check_bodies.specs.declared.code_lines.Lines.{Lines}

-- depths of stacks, locals, clauses, and ranges with names
abbrev pub others : List ℕ
others =
    ITEM_MAXSTACK ∷ LOCAL ∷ CLAUSE_CATCH ∷ CLAUSE_FILTER ∷ CLAUSE_FINALLY ∷ CLAUSE_FAULT ∷ TRY_RANGE_NAME ∷ HANDLER_HANDLER
    ∷ FILTER_START_NAME ∷ []

-- what stands before the braces of a method, and types
abbrev pub head_forms : List ℕ
head_forms = METHOD_ATTR_STAR_MORE ∷ CALL_CONV ∷ TYPE ∷ DEF_ARGS_OPT_SOME ∷ IMPL_ATTR_STAR_MORE ∷ []

-- by whether it is an instruction, the name of a label, one of the others, and of the head: 1 to 4, and 0 where it is none of these
abbrev pub kind_by : Bool → Bool → Bool → Bool → ℕ
kind_by form name other head = if form then 1 else if name then 2 else if other then 3 else if head then 4 else 0

-- which of those a production is
abbrev pub kind_of : ℕ → ℕ
kind_of p = kind_by (is_among instruction_forms p) (is_among (ITEM_NAME ∷ []) p) (is_among others p) (is_among head_forms p)

-- a method without depths of its stack, locals and clauses: its labels are named by its instructions alone
pub record IsPlain (nodes : List TreeNode) (f : Forest) : Type 0 where
  pub plain : is_plain nodes ≡ true
  pub named : label_names f ≡ flat_map targets (instructions_of f)

pub record AreLines (nodes : List TreeNode) (f : Forest) (x : Lines) : Type 0 where
  pub instructions-are : ArePieces nodes x.instructions (instructions_of f)
  pub labels-are : x.labels ≡ labels f
  pub plain-is : x.plain ≡ true → IsPlain nodes f
