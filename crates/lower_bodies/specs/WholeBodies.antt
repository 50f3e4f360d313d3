-- The body of a method that has instructions (ECMA-335 II.25.4).
use Rattle.std.specs.Prelude.{◌≡◌}
use Rattle.assembly_tree.specs.declared.body.Body.{Body}
use Rattle.ilasm_grammar.specs.declared.productions.TheConstants.{INIT_OPT_SOME}
use Rattle.source_model.specs.Bodies.{bound, code}
use Rattle.source_model.specs.Clauses.{clauses}
use Rattle.source_model.specs.Forest.{Forest, has}
use Rattle.source_model.specs.Nodes.{Around}
use Rattle.source_model.specs.Source.{Source}
use Rattle.source_model.specs.Variables.{local_types}

pub record IsBodyOf (s : Source) (a : Around) (f : Forest) (b : Body) : Type 0 where
  pub bound-is : b.bound ≡ bound s f
  pub init-is : b.init ≡ has INIT_OPT_SOME f
  pub locals-are : b.locals ≡ local_types s a f
  pub code-is : b.code ≡ code s a f
  pub clauses-are : b.clauses ≡ clauses s a f
