-- What the owners of fields and methods, as the code keeps them, mean in a pool of types.
use Rattle.std.specs.Prelude.{◌≡◌, ℕ, ◌<◌, List, [], length, Option, None, Some}
use Rattle.type_terms.specs.declared.reference.FieldRef.{FieldRef}
use Rattle.type_terms.specs.declared.reference.MethodRef.{MethodRef}
use Rattle.type_terms.specs.declared.term.SigType.{SigType}
use Rattle.assembly_tree.specs.declared.body.Operand as operand
use Rattle.sig_pool.specs.declared.node.Node.{Node}
use Rattle.sig_pool.specs.Pool.{Has, HasAll}
use Rattle.sig_pool.specs.Terms.{AllBelow}
use Rattle.type_hierarchy.specs.declared.stack_type.StackType.{StackType}
use Rattle.type_hierarchy.specs.Hierarchy.{Hierarchy}
use Rattle.type_hierarchy.specs.Meaning.{Means}
use Rattle.type_hierarchy.specs.Stack.{Stack}
use Rattle.code_flow.specs.declared.operation.Operation.{Operation}
use Rattle.code_flow.specs.Frames.{owner_in, class_arguments, method_arguments}
use Rattle.code_flow.specs.Rows as rows
use Rattle.stack_rows.specs.RowMeanings.{MeansNamed}
use Rattle.stack_effects.specs.declared.calls.CallParts.{CallParts}
use Rattle.stack_effects.specs.declared.fields.FieldParts.{FieldParts}

-- the owner and the type of a field
pub record MeansField (ns : List Node) (v : FieldParts) (w : Hierarchy) (r : FieldRef) : Type 0 where
  pub owner : Has ns v.owner (owner_in w r.owner)
  pub type : MeansNamed ns v.of w (rows.field_type w r)

abbrev pub field_in : operand.Operand → Option FieldRef
field_in (operand.TheVariants.Field r) = Some r
field_in o = None

-- the row of an instruction on the field that its operand names, where it names one
abbrev pub field_row_by : Hierarchy → Option SigType → Operation → Option FieldRef → rows.Row
field_row_by w constrained o None = rows.row [] []
field_row_by w constrained o (Some r) = rows.field_row w constrained o r

pub record IsCallWithin (n : ℕ) (v : CallParts) : Type 0 where
  pub owner : v.owner < n
  pub class_args : AllBelow n v.class_args
  pub method_args : AllBelow n v.method_args

-- the owner of a method, and the generic arguments
pub record MeansCall (ns : List Node) (v : CallParts) (w : Hierarchy) (m : MethodRef) : Type 0 where
  pub owner : Has ns v.owner (owner_in w m.owner)
  pub class_args : HasAll ns v.class_args (class_arguments w m.owner)
  pub method_args : HasAll ns v.method_args (method_arguments w m.args)

abbrev pub method_in : operand.Operand → Option MethodRef
method_in (operand.TheVariants.Method m) = Some m
method_in o = None

-- the row of a call of the method that its operand names, where it names one
abbrev pub method_row_by : Hierarchy → Option SigType → Operation → Option MethodRef → rows.Row
method_row_by w constrained o None = rows.row [] []
method_row_by w constrained o (Some m) = rows.method_row w constrained o (operand.TheVariants.Method m)

-- the value that is returned, or none
abbrev pub MeansResult : List Node → Option StackType → List rows.Pushed → Type 0
MeansResult ns None ps = ps ≡ []
MeansResult ns (Some s) ps = (x : Stack) × (ps ≡ rows.pushes x) × Means ns s x
