-- The body of a method (ECMA-335 II.15.4.1, II.25.4).
use Rattle.std.specs.Prelude.{ℕ, List, [], ◌∷◌, map, Option, None, Some, fold}
use Rattle.assembly_tree.specs.declared.body.Body.{Body}
use Rattle.assembly_tree.specs.declared.body.Ins.{Ins}
use Rattle.ilasm_grammar.specs.declared.productions.TheConstants.{ITEM_MAXSTACK, INIT_OPT_SOME}
use Rattle.source_model.specs.Clauses.{clauses}
use Rattle.source_model.specs.Forest.{Forest, each, has, leaf_at}
use Rattle.source_model.specs.Instructions.{instructions_of}
use Rattle.source_model.specs.Nodes.{Around}
use Rattle.source_model.specs.Operands.{instruction}
use Rattle.source_model.specs.Shapes.{natural}
use Rattle.source_model.specs.Source.{Source}
use Rattle.source_model.specs.Values.{int_at}
use Rattle.source_model.specs.Variables.{local_types}

-- the most values that the stack is to hold: what the last `.maxstack` says, or 8 (ECMA-335 II.25.4.2)
abbrev pub bound : Source → Forest → ℕ
bound s f = fold (λ n line. natural (int_at s (leaf_at 1 line))) 8 (each ITEM_MAXSTACK f)

-- the instructions of a method
unfoldable pub code : Source → Around → Forest → List Ins
code s a f = map (instruction s a f) (instructions_of f)

-- a method whose braces hold no instruction has no body
abbrev pub body_unless_empty : Source → Around → Forest → List Ins → Option Body
body_unless_empty s a f [] = None
body_unless_empty s a f (i ∷ is) = Some (record {
  bound = bound s f;
  init = has INIT_OPT_SOME f;
  locals = local_types s a f;
  code = i ∷ is;
  clauses = clauses s a f;
})

-- the body of a method, from what stands around its parts and below its production
unfoldable pub body : Source → Around → Forest → Option Body
body s a f = body_unless_empty s a f (code s a f)
